-- WORKED FAMILIES (document 02, P6): days with families, a set of their blocks, and the lines of the family report under it; and the report of a book's
-- orders. `proofs/FamilyCases.antt` and `proofs/WorkedDayLaws.antt` prove them. The rules do not use them. Definitions only. Assumes nothing.
use Rattle.std.specs.Prelude.{ℕ, Bool, true, false, ◌≡◌, List, [], ◌∷◌}
use Rattle.rules.specs.Orders.{buy, sell, Block, Link, Orders}
use Rattle.rules.specs.Day.{Day, day_of}
use Rattle.rules.specs.Families.{Family, families_of}
use Rattle.rules.specs.WorkedDays.{step, block, block12, block23, base_with}

-- A link: child, parent. A line of the report: root, gain.
abbrev pub link : ℕ → ℕ → Link
link child parent = record { child = child; parent = parent }

abbrev pub line : ℕ → ℕ → Family
line root gain = record { root = root; gain = gain }

-- In hours 1 and 2 each, buy 200 at 5000 and sell 100 at 3000: with sell blocks of less than 100 the prices are 5000.
abbrev pub scarce_with : List Block → List Link → Orders
scarce_with blocks links =
    record {
      edition = 3;
      hours = 24;
      steps = step 1 buy 1 200 5000 ∷ step 2 sell 1 100 3000 ∷ step 3 buy 2 200 5000 ∷ step 4 sell 2 100 3000 ∷ [];
      blocks = blocks;
      links = links;
    }

-- Two families over hours 1 and 2 (bits 3): block 1 with its child 2 and grandchild 4; block 3 with its child 5, which asks too much; and a buy block, 6.
abbrev pub generations : Day
generations =
    day_of (scarce_with (block 1 sell 3 20 2900 ∷ block 2 sell 3 10 2500 ∷ block 3 sell 3 10 2800 ∷ block 4 sell 3 10 2000 ∷ block 5 sell 3 10 6000
    ∷ block 6 buy 3 10 5500 ∷ []) (link 2 1 ∷ link 4 2 ∷ link 5 3 ∷ []))

-- Hours 2 and 3 of a day of 25 hours, at prices of 3000: a block at 2900 with its child at 2800.
abbrev pub autumn_family : Day
autumn_family =
    day_of (record {
      edition = 3;
      hours = 25;
      steps = step 1 buy 2 100 5000 ∷ step 2 sell 2 100 3000 ∷ step 3 buy 3 100 5000 ∷ step 4 sell 3 100 3000 ∷ [];
      blocks = block23 2900 ∷ block 2 sell 6 10 2800 ∷ [];
      links = link 2 1 ∷ [];
    })

-- A day, a set of its blocks, and the lines under it.
pub record FamilyCase : Type 0 where
  pub day : Day
  pub set : List Bool
  pub lines : List Family

unfoldable pub family_cases : List FamilyCase
family_cases =
    -- three generations gain 20 × 4200, 10 × 5000 and 10 × 6000; block 3 gains 10 × 4400, its child is left out; the buy block gains 10 × 1000
    record {
      day = generations;
      set = true ∷ true ∷ true ∷ true ∷ false ∷ true ∷ [];
      lines = line 1 194000 ∷ line 3 44000 ∷ line 6 10000 ∷ [];
    }
    -- block 1 alone of its family; of the other nothing
    ∷ record {
      day = generations;
      set = true ∷ false ∷ false ∷ false ∷ false ∷ false ∷ [];
      lines = line 1 84000 ∷ line 3 0 ∷ line 6 0 ∷ [];
    }
    -- hour 3 counts twice: 50 × (9000 - 8700) and 10 × (9000 - 8400)
    ∷ record { day = autumn_family; set = true ∷ true ∷ []; lines = line 1 21000 ∷ [] }
    -- without links each block is its own family
    ∷ record { day = day_of (base_with (block12 1 2900 ∷ block12 2 2900 ∷ [])); set = true ∷ false ∷ []; lines = line 1 10000 ∷ line 2 0 ∷ [] }
    ∷ []

-- Each case holds.
abbrev pub FamiliesHold : List FamilyCase → Type 0
FamiliesHold [] = Unit {0}
FamiliesHold (c ∷ l) = (families_of c.day c.set c.day.blocks ≡ c.lines) × FamiliesHold l

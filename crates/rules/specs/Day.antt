-- THE DAY (document 01, "The day"; document 02, P7): the hours under a set of blocks, a block's limit, the set's shift and prices, lawful sets, welfare.
-- Definitions only. Assumes nothing.
-- A set of the day's blocks is a list of decisions, the lowest-numbered block's first: true if it is taken.
use Rattle.std.specs.Prelude.{ℕ, zero, suc, ◌+◌, ◌-◌, ◌*◌, ◌/◌, ◌%◌, Bool, true, false, cond, not, ◌&&◌, ◌||◌, List, [], ◌∷◌, leb, eqb, drop, get_or}
use Rattle.rules.specs.Orders.{Step, Block, Link, Orders, steps_of, canonical}
use Rattle.rules.specs.Hour.{Hour, by_side, when, pricing, is_cleared, answered_price}
use Rattle.rules.specs.Shift.{shifted_price, nearest_shift, all_shifts, or_middle}
use Rattle.rules.specs.Execution.{test_side, execution, total₂, bought}

-- A day: the edition it follows, how many hours it has, its steps and its blocks, each in rising order number, and the links between its blocks.
pub record Day : Type 0 where
  pub edition : ℕ
  pub hours : ℕ
  pub steps : List Step
  pub blocks : List Block
  pub links : List Link

-- HOURS
-- The hour in which the clocks change; the hours of a day, of the one in spring that lacks it, and of the one in autumn that has it twice.
abbrev pub change_hour : ℕ
change_hour = 3

abbrev pub normal_hours : ℕ
normal_hours = 24

abbrev pub spring_hours : ℕ
spring_hours = 23

abbrev pub autumn_hours : ℕ
autumn_hours = 25

-- How often hour h counts on a day of so many hours: hour 3 not at all on 23 hours, once on 24, twice on 25; every other hour once.
unfoldable pub weight : ℕ → ℕ → ℕ
weight hours h = cond (eqb h change_hour) (hours - spring_hours) 1

-- Whether an hour counts at all.
unfoldable pub is_counted : ℕ → ℕ → Bool
is_counted hours h = not (eqb (weight hours h) 0)

-- THE DAY of a book's orders
-- A block on a day of so many hours: it runs in those of its hours that count.
abbrev pub on_day : ℕ → Block → Block
on_day hours b =
    record { number = b.number; portfolio = b.portfolio; side = b.side; price = b.price; quantity = b.quantity; runs = λ h. b.runs h && is_counted hours h }

unfoldable pub each_on_day : ℕ → List Block → List Block
each_on_day hours [] = []
each_on_day hours (b ∷ l) = on_day hours b ∷ each_on_day hours l

-- The day that a book's orders make.
unfoldable pub day_of : Orders → Day
day_of orders =
    record {
      edition = (canonical orders).edition;
      hours = (canonical orders).hours;
      steps = steps_of (canonical orders).steps;
      blocks = each_on_day (canonical orders).hours (canonical orders).blocks;
      links = (canonical orders).links;
    }

-- The sum of a number of each of the hours 1 to n.
unfoldable pub sum_to : ℕ → (ℕ → ℕ) → ℕ
sum_to zero f = 0
sum_to (suc n) f = sum_to n f + f (suc n)

-- The sum over the hours of the day, each as often as it counts.
unfoldable pub day_sum : ℕ → (ℕ → ℕ) → ℕ
day_sum hours f = sum_to 24 (λ h. weight hours h * f h)

-- A test passes in each of the hours 1 to n.
unfoldable pub all_to : ℕ → (ℕ → Bool) → Bool
all_to zero t = true
all_to (suc n) t = all_to n t && t (suc n)

-- A test passes in every hour that counts.
unfoldable pub every_hour : ℕ → (ℕ → Bool) → Bool
every_hour hours t = all_to 24 (λ h. eqb (weight hours h) 0 || t h)

-- The element before the list where the test passes, else the list alone.
abbrev pub keep {ℓ} : {A : Type ℓ} → Bool → A → List A → List A
keep true a l = a ∷ l
keep false a l = l

-- The steps of an hour, in rising order number.
abbrev pub steps_in : ℕ → List Step → List Step
steps_in h [] = []
steps_in h (s ∷ l) = keep (eqb s.hour h) s (steps_in h l)

-- BLOCKS
-- The blocks of a set.
abbrev pub taken : List Block → List Bool → List Block
taken [] set = []
taken (b ∷ l) [] = []
taken (b ∷ l) (true ∷ set) = b ∷ taken l set
taken (b ∷ l) (false ∷ set) = taken l set

-- The decisions of n blocks for a set given as bits, the lowest for the first block.
unfoldable pub decisions : ℕ → ℕ → List Bool
decisions zero bits = []
decisions (suc n) bits = eqb (bits % 2) 1 ∷ decisions n (bits / 2)

-- The sum of a number of each block.
abbrev pub over_blocks : (Block → ℕ) → List Block → ℕ
over_blocks f [] = 0
over_blocks f (b ∷ l) = f b + over_blocks f l

-- What a block sells, and buys, in an hour: its quantity where it runs.
abbrev pub sells : ℕ → Block → ℕ
sells h b = when (b.runs h) (by_side b.side 0 b.quantity)

abbrev pub buys : ℕ → Block → ℕ
buys h b = when (b.runs h) (by_side b.side b.quantity 0)

-- An hour of the day under a set of blocks.
abbrev pub hour_of : Day → List Block → ℕ → Hour
hour_of day set h =
    record { steps = steps_in h day.steps; block_sales = over_blocks (sells h) set; block_buys = over_blocks (buys h) set }

-- Whether an hour clears under a set.
unfoldable pub hour_clears : Day → List Block → ℕ → Bool
hour_clears day set h = is_cleared (pricing (hour_of day set h))

-- How many hours a block runs in, and the sum of prices over them, each hour as often as it counts.
unfoldable pub hour_count : ℕ → Block → ℕ
hour_count hours b = day_sum hours (λ h. when (b.runs h) 1)

unfoldable pub price_sum : ℕ → (ℕ → ℕ) → Block → ℕ
price_sum hours price b = day_sum hours (λ h. when (b.runs h) (price h))

-- LINKS
-- Some block of a list has this number.
abbrev pub is_among : List Block → ℕ → Bool
is_among [] number = false
is_among (b ∷ l) number = eqb b.number number || is_among l number

-- The blocks of a set keep a link: its child is not among them, or its parent is.
unfoldable pub keeps_link : List Block → Link → Bool
keeps_link set link = not (is_among set link.child) || is_among set link.parent

-- A test passes for every link of a list.
abbrev pub every_link : (Link → Bool) → List Link → Bool
every_link t [] = true
every_link t (link ∷ l) = t link && every_link t l

-- LIMITS
-- A block keeps its limit: the sum of prices over its hours is at least its price times its hour count for a sell, at most that for a buy.
unfoldable pub keeps_limit : ℕ → (ℕ → ℕ) → Block → Bool
keeps_limit hours price b =
    test_side b.side
    (leb (price_sum hours price b) (b.price * hour_count hours b))
    (leb (b.price * hour_count hours b) (price_sum hours price b))

-- A test passes for every block of a list.
abbrev pub every_block : (Block → Bool) → List Block → Bool
every_block t [] = true
every_block t (b ∷ l) = t b && every_block t l

-- PRICES of a set
-- The first edition whose prices can give way; they can in that one and in later ones.
abbrev pub first_shift_edition : ℕ
first_shift_edition = 4

unfoldable pub gives_way : ℕ → Bool
gives_way edition = leb first_shift_edition edition

-- The price of each hour under a set at shift t.
unfoldable pub prices_at_shift : Day → List Block → ℕ → ℕ → ℕ
prices_at_shift day set t h = shifted_price t (pricing (hour_of day set h))

-- Shift t keeps all blocks of a set: each keeps its limit at the prices there.
unfoldable pub keeps_all : Day → List Block → ℕ → Bool
keeps_all day set t = every_block (keeps_limit day.hours (prices_at_shift day set t)) set

-- The shift of a set: the t of 0 to 1000 nearest 500 that keeps all its blocks, of two the smaller. Where none does it is the middle one, at which some
-- block misses its limit.
unfoldable pub set_shift : Day → List Block → ℕ
set_shift day set = or_middle (nearest_shift (keeps_all day set) all_shifts)

-- The price of each hour under a set: that at the set's shift where prices can give way, else the hour's middle price.
unfoldable pub set_prices : Day → List Block → ℕ → ℕ
set_prices day set h = cond (gives_way day.edition) (prices_at_shift day set (set_shift day set) h) (answered_price (pricing (hour_of day set h)))

-- Each block of a set keeps its limit at the prices under that set.
unfoldable pub keeps_limits : Day → List Block → Bool
keeps_limits day set = every_block (keeps_limit day.hours (set_prices day set)) set

-- LAWFUL SETS ("lawful" is document 01's term)
-- Which sets may be taken at all: those that hold every taken child's parent.
unfoldable pub allowed : Day → List Bool → Bool
allowed day set = every_link (keeps_link (taken day.blocks set)) day.links

-- A set is lawful when it may be taken, every hour clears and each of its blocks keeps its limit.
unfoldable pub lawful : Day → List Bool → Bool
lawful day set =
    allowed day set
    && (every_hour day.hours (hour_clears day (taken day.blocks set)) && keeps_limits day (taken day.blocks set))

-- WELFARE
-- What the quantities of the steps that buy are worth, and what those of the steps that sell cost: quantity times order price.
unfoldable pub steps_value : ℕ → List Step → List ℕ → ℕ
steps_value hours = total₂ (λ s q. weight hours s.hour * by_side s.side (q * s.price) 0)

unfoldable pub steps_cost : ℕ → List Step → List ℕ → ℕ
steps_cost hours = total₂ (λ s q. weight hours s.hour * by_side s.side 0 (q * s.price))

-- The same of blocks, in each of their hours.
unfoldable pub blocks_value : ℕ → List Block → ℕ
blocks_value hours = over_blocks (λ b. by_side b.side (b.quantity * (b.price * hour_count hours b)) 0)

unfoldable pub blocks_cost : ℕ → List Block → ℕ
blocks_cost hours = over_blocks (λ b. by_side b.side 0 (b.quantity * (b.price * hour_count hours b)))

-- Welfare is the value less the cost, over all steps by their quantities and over the blocks of the set.
unfoldable pub day_value : Day → List Block → List ℕ → ℕ
day_value day set quantities = steps_value day.hours day.steps quantities + blocks_value day.hours set

unfoldable pub day_cost : Day → List Block → List ℕ → ℕ
day_cost day set quantities = steps_cost day.hours day.steps quantities + blocks_cost day.hours set

-- One list of quantities for each hour, put in the order of the steps: each step takes the next one of its hour.
unfoldable pub in_step_order : (ℕ → List ℕ) → List Step → List ℕ
in_step_order q [] = []
in_step_order q (s ∷ l) = get_or (q s.hour) 0 0 ∷ in_step_order (λ h. drop (when (eqb s.hour h) 1) (q h)) l

-- The executed quantity of each step under a set.
unfoldable pub executed : Day → List Block → List ℕ
executed day set = in_step_order (λ h. execution (hour_of day set h) (set_prices day set h)) day.steps

-- The welfare of a set with its executed quantities. (A lawful set's is not negative.)
unfoldable pub welfare : Day → List Bool → ℕ
welfare day set =
    day_value day (taken day.blocks set) (executed day (taken day.blocks set))
    - day_cost day (taken day.blocks set) (executed day (taken day.blocks set))

-- The traded quantity of an hour: executed buy steps and the buy blocks of the set.
unfoldable pub traded : Day → List Block → ℕ → ℕ
traded day set h =
    bought (steps_in h day.steps) (execution (hour_of day set h) (set_prices day set h)) + over_blocks (buys h) set

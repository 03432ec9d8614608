-- What an accepted book promises to the layers above, each law from `Accepted b` alone: its size and head, its chains, its steps, its blocks and its links
-- (distinct, apart, rising, and every record one of them), the fields of each, and how many orders there are. Assumes nothing.
use Prim.Native.Nat.{ℕ, suc, ◌+◌, ◌*◌, ◌≤◌, ◌<◌}
use mathlib.Core.Path.{◌≡◌, refl, sym, ◌∙◌}
use mathlib.Core.List.{List, [], ◌∷◌}
use mathlib.Core.Bool.{Bool, true, false, cond, not, ◌||◌, ◌&&◌, true≢false}
use native.Mathlib.Omega.{arith}
use borrow.Author.Tests.{eq-eqb, ne_eqb, eqb-true, eqb-false, leb-true, leb-false, ltb-false, le-leb, le-ltb, not-false, not-true}
use lib.Dec.{eqb, leb, ltb}
use lib.ListN.{length}
use Rattle.records.specs.Bytes.{nonzero}
use Rattle.records.specs.Layout.{record_size, head_rest_offset, head_rest_size, step_kind, block_kind, link_kind, last_side, last_hour}
use Rattle.chains.specs.Bounds.{hour_numbers, most_steps_in_hour, portfolio_numbers}
use Rattle.book.specs.Bounds.{first_step_limit_edition, most_records, first_edition, last_edition, most_blocks}
use Rattle.fields.specs.Bounds.{last_portfolio, most_step_quantity, fewest_hours}
use Rattle.fields.specs.Tests.{within, some_below, count_in, member}
use Rattle.rules.specs.Orders.{max_price, Limits, limits}
use Rattle.rules.specs.Day.{spring_hours, autumn_hours, is_counted}
use Rattle.rules.proofs.HourSums.{all-counted}
use Rattle.records.specs.Records.{record_count, day_hours, edition, kind, side_byte, hour_byte}
use Rattle.records.specs.Records.{step_at, block_at, link_at, link_rest, record_at, hours_set}
use Rattle.chains.specs.Chains.{chain_from, first_on, kind_on, chain_of, is_on, count_on, step_order, block_order, link_order, steps, blocks, links}
use Rattle.chains.specs.Causes.{broken_chain, wrong_field_on, wrong_field, stray, stray_record, owned_by}
use Rattle.book.specs.Refusals.{wrong_size, links_too_early, wrong_head, too_many_of, too_many_blocks, first_cause, own_causes, refusal, Accepted, too_many_steps}
use Rattle.chains.specs.Causes.{uncounted, uncounted_on, wrong_hours, has_block, misnamed, wrong_link, steps_for}
use Rattle.fields.specs.Ranges.{step_fits, block_fits, step_in_range, block_in_range, link_in_range, record_in_range, out_of_range}
use Rattle.records.specs.declared.Step.{Step}
use Rattle.records.specs.declared.Block.{Block}
use Rattle.records.specs.declared.Link.{Link}
use Rattle.records.specs.declared.Record.TheVariants as record_of
use Rattle.chains.specs.declared.Chain.{Chain}
use Rattle.chains.specs.declared.Chain.TheVariants as chain-of
use Rattle.chains.proofs.Laws.{or_left, or_right, and_left, and_right}
use Rattle.chains.proofs.Members.{Each, each_map, each_both, each_member, each-image, none_in, none_below, Distinct}
use Rattle.chains.proofs.Distinct.{Placed, placed, Rising, rising, distinct, apart, chain-positive, chain-short, chain-whole}
use Rattle.chains.proofs.Distinct.{on_some, on_none, unbroken, chains-fit, stray-short}
use Rattle.book.proofs.Refused.{bounds, count-bounds}
use Rattle.book.proofs.StepLimits.{within-limit}

-- A cause passed over does not hold
passed : (holds : Bool) (n after : ℕ) → cond holds (suc n) after ≡ 0 → (holds ≡ false) × (after ≡ 0)
passed true n after e = absurd (omega arith)
passed false n after e = (refl, e)

-- A book whose number is 0 is accepted ..
pub accepted : (b : List ℕ) → refusal b ≡ 0 → Accepted b
unfolding refusal own_causes first_cause
accepted b e =
    let p1 = passed (wrong_size b) 0 _ e in
    let p2 = passed (wrong_head b) 1 _ p1.1 in
    let p3 = passed (broken_chain b) 2 _ p2.1 in
    let p4 = passed (wrong_field b) 3 _ p3.1 in
    let p5 = passed (stray_record b) 4 _ p4.1 in
    let p6 = passed (too_many_blocks b) 5 _ p5.1 in
    let p9 = passed (wrong_hours b) 8 _ p6.1 in
    let p10 = passed (wrong_link b) 9 _ p9.1 in
    let p11 = passed (too_many_steps b) 10 _ p10.1 in
    record {
      right_size = p1.0;
      right_head = p2.0;
      unbroken = p3.0;
      in_range = p4.0;
      no_stray = p5.0;
      not_too_many = p6.0;
      right_hours = p9.0;
      right_links = p10.0;
      not_too_many_steps = p11.0;
    }

-- .. and the number of an accepted book is 0
pub accepted-zero : (b : List ℕ) → Accepted b → refusal b ≡ 0
unfolding refusal own_causes first_cause
accepted-zero b a =
    rw (
      a.right_size,
      a.right_head,
      a.unbroken,
      a.in_range,
      a.no_stray,
      a.not_too_many,
      a.right_hours,
      a.right_links,
      a.not_too_many_steps,
    )

-- The length is 16 × R
pub size : (b : List ℕ) → Accepted b → length b ≡ record_size * record_count b
unfolding wrong_size
size b a =
    let t = not (eqb (length b) (record_size * record_count b)) in
    let u = ltb (length b) record_size in
    eqb-true _ _ (not-false _ (or_left t u (or_left (t || u) (not (within 1 (record_count b) most_records)) a.right_size)))

-- R is from 1 to 2,048
pub record-count : (b : List ℕ) → Accepted b → (1 ≤ record_count b) × (record_count b ≤ most_records)
record-count b a = count-bounds b a.right_size

-- The day has 23 to 25 hours
pub day-hours : (b : List ℕ) → Accepted b → (spring_hours ≤ day_hours b) × (day_hours b ≤ autumn_hours)
unfolding wrong_head
day-hours b a =
    let t = not (within spring_hours (day_hours b) autumn_hours) in
    let u = not (within first_edition (edition b) last_edition) in
    let v = links_too_early b in
    bounds _ _ _ (not-false _ (or_left t u (or_left (t || u) v (or_left (t || u || v) (nonzero b head_rest_offset head_rest_size) a.right_head))))

-- The edition is one that there is
pub edition-known : (b : List ℕ) → Accepted b → within first_edition (edition b) last_edition ≡ true
unfolding wrong_head
edition-known b a =
    let t = not (within spring_hours (day_hours b) autumn_hours) in
    let u = not (within first_edition (edition b) last_edition) in
    let v = links_too_early b in
    not-false _ (or_right t u (or_left (t || u) v (or_left (t || u || v) (nonzero b head_rest_offset head_rest_size) a.right_head)))

-- The chains are whole: they end within R records, so that following them further finds nothing more
pub chains-whole : (b : List ℕ) → Accepted b → (c : Chain) (m : ℕ) → chain_from (record_count b + m) b (first_on b c) ≡ chain_of b c
chains-whole b a c m =
    chain-whole (record_count b) m b (first_on b c) (chain-short b c (record-count b a).0 (unbroken b a.unbroken c))

-- No record stands twice among the steps, among the blocks or among the links
pub steps-distinct : (b : List ℕ) → Accepted b → Distinct (step_order b)
unfolding step_order
steps-distinct b a = distinct b chain-of.Steps (unbroken b a.unbroken chain-of.Steps)

pub blocks-distinct : (b : List ℕ) → Accepted b → Distinct (block_order b)
unfolding block_order
blocks-distinct b a = distinct b chain-of.Blocks (unbroken b a.unbroken chain-of.Blocks)

pub links-distinct : (b : List ℕ) → Accepted b → Distinct (link_order b)
unfolding link_order
links-distinct b a = distinct b chain-of.Links (unbroken b a.unbroken chain-of.Links)

-- The order numbers of the steps rise strictly, the first at least 1, and so do those of the blocks and those of the links' children
pub steps-rising : (b : List ℕ) → Accepted b → Rising b 0 (step_order b)
unfolding step_order
steps-rising b a = rising b chain-of.Steps refl (unbroken b a.unbroken chain-of.Steps)

pub blocks-rising : (b : List ℕ) → Accepted b → Rising b 0 (block_order b)
unfolding block_order
blocks-rising b a = rising b chain-of.Blocks refl (unbroken b a.unbroken chain-of.Blocks)

pub links-rising : (b : List ℕ) → Accepted b → Rising b 0 (link_order b)
unfolding link_order
links-rising b a = rising b chain-of.Links refl (unbroken b a.unbroken chain-of.Links)

-- The head, the steps, the blocks and the links are R together
pub lengths : (b : List ℕ) → Accepted b → length (step_order b) + length (block_order b) + length (link_order b) + 1 ≡ record_count b
unfolding step_order block_order link_order
lengths b a =
    let p = (record-count b a).0 in
    let most = chains-fit b p a.unbroken in
    let least =
    ltb-false (count_on b chain-of.Steps + count_on b chain-of.Blocks + count_on b chain-of.Links + 1) (record_count b)
    (sym (stray-short b p a.unbroken) ∙ a.no_stray)
    in
    omega arith

-- At most 2,047 steps ..
pub steps-few : (b : List ℕ) → Accepted b → length (step_order b) ≤ 2047
steps-few b a = let e = lengths b a in let r = record-count b a in omega arith

-- .. and 32 blocks
pub blocks-few : (b : List ℕ) → Accepted b → length (block_order b) ≤ most_blocks
unfolding too_many_blocks block_order
blocks-few b a = ltb-false most_blocks (count_on b chain-of.Blocks) (or_left _ (some_below portfolio_numbers (too_many_of b)) a.not_too_many)

-- No portfolio has more blocks than the limit
pub portfolio-few : (b : List ℕ) → Accepted b → (p : ℕ) → p < portfolio_numbers
    → count_in (block_order b) (owned_by b p) ≤ (limits (edition b)).blocks_of_portfolio
unfolding too_many_blocks too_many_of block_order
portfolio-few b a p h =
    ltb-false (limits (edition b)).blocks_of_portfolio (count_in (chain_of b chain-of.Blocks) (owned_by b p))
    (none_below portfolio_numbers (too_many_of b) (or_right (ltb most_blocks (count_on b chain-of.Blocks)) _ a.not_too_many) p h)

-- .. nor, from edition 4 on, more than 256 steps in one hour
pub hour-few : (b : List ℕ) → Accepted b → first_step_limit_edition ≤ edition b → (h p : ℕ) → h < hour_numbers → p < portfolio_numbers
    → steps_for b h p ≤ most_steps_in_hour
hour-few b a limited h p = within-limit b a.not_too_many_steps limited h p

-- A record of one chain is on no other
only-on : (b : List ℕ) → Accepted b → (c d : Chain) → (kind_on c ≡ kind_on d → ⊥) → (i : ℕ) → member i (chain_of b c) ≡ true → member i (chain_of b d) ≡ false
only-on b a c d other i e = each_member (λ j. member j (chain_of b d) ≡ false) (chain_of b c) i (apart b c d other a.unbroken) e

-- No link is a step or a block
pub link-only : (b : List ℕ) → Accepted b → (i : ℕ) → member i (link_order b) ≡ true → (member i (step_order b) ≡ false) × (member i (block_order b) ≡ false)
unfolding step_order block_order link_order
link-only b a i e = (
  only-on b a chain-of.Links chain-of.Steps (λ k. omega arith) i e,
  only-on b a chain-of.Links chain-of.Blocks (λ k. omega arith) i e,
)

-- Every record from 1 to R − 1 is a step, or else a block or a link
pub one-chain : (b : List ℕ) → Accepted b → (i : ℕ) → 0 < i → i < record_count b
    → member i (step_order b) ≡ not (member i (block_order b) || member i (link_order b))
unfolding stray_record stray is_on step_order block_order link_order
one-chain b a i p h =
    at (member i (chain_of b chain-of.Steps)) (member i (chain_of b chain-of.Blocks)) (member i (chain_of b chain-of.Links)) refl refl refl
    (rw (← (on_some (is_on b i))) at (none_below (record_count b) (stray b) a.no_stray i h))
  where
    at : (s t u : Bool) → member i (chain_of b chain-of.Steps) ≡ s → member i (chain_of b chain-of.Blocks) ≡ t → member i (chain_of b chain-of.Links) ≡ u
        → (leb 1 i && not (s || t || u)) ≡ false → s ≡ not (t || u)
    at true true u e f l g = absurd (true≢false (sym f ∙ only-on b a chain-of.Steps chain-of.Blocks (λ k. omega arith) i e))
    at true false true e f l g = absurd (true≢false (sym l ∙ only-on b a chain-of.Steps chain-of.Links (λ k. omega arith) i e))
    at true false false e f l g = refl
    at false true u e f l g = refl
    at false false true e f l g = refl
    at false false false e f l g = absurd (true≢false (sym (rw (le-leb 1 i p)) ∙ g))

-- A step's fields are in their ranges
pub record StepBounds (s : Step) : Type 0 where
  pub hour : (1 ≤ s.hour) × (s.hour ≤ last_hour)
  pub portfolio : (1 ≤ s.portfolio) × (s.portfolio ≤ last_portfolio)
  pub price : (1 ≤ s.price) × (s.price ≤ max_price)
  pub quantity : (1 ≤ s.quantity) × (s.quantity ≤ most_step_quantity)

step-bounds : (s : Step) → step_fits s ≡ true → StepBounds s
unfolding step_fits
step-bounds s e =
    let h = within 1 s.hour last_hour in
    let f = within 1 s.portfolio last_portfolio in
    let p = within 1 s.price max_price in
    let q = within 1 s.quantity most_step_quantity in
    let hfp = and_left (h && f && p) q e in
    let hf = and_left (h && f) p hfp in
    record {
      hour = bounds _ _ _ (and_left h f hf);
      portfolio = bounds _ _ _ (and_right h f hf);
      price = bounds _ _ _ (and_right (h && f) p hfp);
      quantity = bounds _ _ _ (and_right (h && f && p) q e);
    }

-- A block's fields are in their ranges
pub record BlockBounds (l : Limits) (s : Block) : Type 0 where
  pub portfolio : (1 ≤ s.portfolio) × (s.portfolio ≤ last_portfolio)
  pub hours : fewest_hours ≤ hours_set last_hour s.hours
  pub price : (1 ≤ s.price) × (s.price ≤ max_price)
  pub quantity : (1 ≤ s.quantity) × (s.quantity ≤ l.block_quantity)

block-bounds : (l : Limits) (s : Block) → block_fits l s ≡ true → BlockBounds l s
unfolding block_fits
block-bounds l s e =
    let f = within 1 s.portfolio last_portfolio in
    let h = leb fewest_hours (hours_set last_hour s.hours) in
    let p = within 1 s.price max_price in
    let q = within 1 s.quantity l.block_quantity in
    let fhp = and_left (f && h && p) q e in
    let fh = and_left (f && h) p fhp in
    record {
      portfolio = bounds _ _ _ (and_left f h fh);
      hours = leb-true _ _ (and_right f h fh);
      price = bounds _ _ _ (and_right (f && h) p fhp);
      quantity = bounds _ _ _ (and_right (f && h && p) q e);
    }

-- Record i of the step chain: its index from 1 to R − 1, read as a step, side and fields in range
pub record StepRecord (b : List ℕ) (i : ℕ) : Type 0 where
  pub positive : 0 < i
  pub inside : i < record_count b
  pub of_kind : kind b i ≡ step_kind
  pub read : record_at b i ≡ record_of.Step (step_at b i)
  pub side : side_byte b i ≤ last_side
  pub fields : StepBounds (step_at b i)

-- Record i of the block chain: its index from 1 to R − 1, read as a block, side, byte 6 and fields in range
pub record BlockRecord (b : List ℕ) (i : ℕ) : Type 0 where
  pub positive : 0 < i
  pub inside : i < record_count b
  pub of_kind : kind b i ≡ block_kind
  pub read : record_at b i ≡ record_of.Block (block_at b i)
  pub side : side_byte b i ≤ last_side
  pub no_hour : hour_byte b i ≡ 0
  pub fields : BlockBounds (limits (edition b)) (block_at b i)

-- Record i of the link chain: its index from 1 to R − 1, read as a link, byte 1 and bytes 8-15 at 0
pub record LinkRecord (b : List ℕ) (i : ℕ) : Type 0 where
  pub positive : 0 < i
  pub inside : i < record_count b
  pub of_kind : kind b i ≡ link_kind
  pub read : record_at b i ≡ record_of.Link (link_at b i)
  pub no_side : side_byte b i ≡ 0
  pub no_rest : link_rest b i ≡ false

-- A record below R is whole
whole : (b : List ℕ) (i : ℕ) → length b ≡ record_size * record_count b → i < record_count b → ltb (length b) (record_size * i + record_size) ≡ false
whole b i size h = le-ltb (length b) (record_size * i + record_size) (omega arith)

step-record : (b : List ℕ) → length b ≡ record_size * record_count b → (i : ℕ) → ((0 < i) × Placed b chain-of.Steps i) × (out_of_range b i ≡ false) → StepRecord b i
unfolding out_of_range record_in_range step_in_range record_at
step-record b size i h =
    let place = h.0.1 in
    let read : record_at b i ≡ record_of.Step (step_at b i) = rw (whole b i size place.below, eq-eqb _ _ place.of_kind) in
    let r : step_in_range b i (step_at b i) ≡ true = not-false _ (rw read at h.1) in
    let side = within 0 (side_byte b i) last_side in
    record {
      positive = h.0.0;
      inside = place.below;
      of_kind = place.of_kind;
      read = read;
      side = (bounds _ _ _ (and_left side (step_fits (step_at b i)) r)).1;
      fields = step-bounds _ (and_right side _ r);
    }

block-record : (b : List ℕ) → length b ≡ record_size * record_count b → (i : ℕ) → ((0 < i) × Placed b chain-of.Blocks i) × (out_of_range b i ≡ false) → BlockRecord b i
unfolding out_of_range record_in_range block_in_range record_at
block-record b size i h =
    let place = h.0.1 in
    let other = ne_eqb (kind b i) step_kind (λ e. let k = place.of_kind in omega arith) in
    let read : record_at b i ≡ record_of.Block (block_at b i) = rw (whole b i size place.below, other, eq-eqb _ _ place.of_kind) in
    let r : block_in_range b i (block_at b i) ≡ true = not-false _ (rw read at h.1) in
    let side = within 0 (side_byte b i) last_side in
    let none = eqb (hour_byte b i) 0 in
    let s = and_left (side && none) (block_fits (limits (edition b)) (block_at b i)) r in
    record {
      positive = h.0.0;
      inside = place.below;
      of_kind = place.of_kind;
      read = read;
      side = (bounds _ _ _ (and_left side none s)).1;
      no_hour = eqb-true _ _ (and_right side none s);
      fields = block-bounds _ _ (and_right (side && none) _ r);
    }

link-record : (b : List ℕ) → length b ≡ record_size * record_count b → (i : ℕ) → ((0 < i) × Placed b chain-of.Links i) × (out_of_range b i ≡ false)
    → LinkRecord b i
unfolding out_of_range record_in_range link_in_range record_at
link-record b size i h =
    let place = h.0.1 in
    let k = place.of_kind in
    let noStep = ne_eqb (kind b i) step_kind (λ e. omega arith) in
    let no_block = ne_eqb (kind b i) block_kind (λ e. omega arith) in
    let read : record_at b i ≡ record_of.Link (link_at b i) = rw (whole b i size place.below, noStep, no_block, eq-eqb _ _ k) in
    let r : link_in_range b i ≡ true = not-false _ (rw read at h.1) in
    let none = eqb (side_byte b i) 0 in
    record {
      positive = h.0.0;
      inside = place.below;
      of_kind = k;
      read = read;
      no_side = eqb-true _ _ (and_left none (not (link_rest b i)) r);
      no_rest = not-true _ (and_right none _ r);
    }

-- A record of a chain: its index is not 0, it belongs there, and its fields are in range
chain-records : (b : List ℕ) → Accepted b → (c : Chain) → Each (λ i. ((0 < i) × Placed b c i) × (out_of_range b i ≡ false)) (chain_of b c)
unfolding wrong_field wrong_field_on
chain-records b a c =
    let l = chain_of b c in
    each_both (λ i. (0 < i) × Placed b c i) (λ i. out_of_range b i ≡ false) l
    (each_both (λ i. 0 < i) (Placed b c) l (chain-positive (record_count b) b (first_on b c)) (placed b c (unbroken b a.unbroken c)))
    (none_in l (out_of_range b) (on_none (wrong_field_on b) a.in_range c))

-- What holds of each record of the steps
pub step-records : (b : List ℕ) → Accepted b → Each (StepRecord b) (step_order b)
unfolding step_order
step-records b a =
    each_map (λ i. ((0 < i) × Placed b chain-of.Steps i) × (out_of_range b i ≡ false)) (StepRecord b) (chain_of b chain-of.Steps)
    (step-record b (size b a)) (chain-records b a chain-of.Steps)

-- What holds of each record of the blocks
pub block-records : (b : List ℕ) → Accepted b → Each (BlockRecord b) (block_order b)
unfolding block_order
block-records b a =
    each_map (λ i. ((0 < i) × Placed b chain-of.Blocks i) × (out_of_range b i ≡ false)) (BlockRecord b) (chain_of b chain-of.Blocks)
    (block-record b (size b a)) (chain-records b a chain-of.Blocks)

-- What holds of each record of the links
pub link-records : (b : List ℕ) → Accepted b → Each (LinkRecord b) (link_order b)
unfolding link_order
link-records b a =
    each_map (λ i. ((0 < i) × Placed b chain-of.Links i) × (out_of_range b i ≡ false)) (LinkRecord b) (chain_of b chain-of.Links)
    (link-record b (size b a)) (chain-records b a chain-of.Links)

-- A link's child and parent are blocks of the book, the parent's number below the child's
pub record LinkNames (b : List ℕ) (l : Link) : Type 0 where
  pub child_in : has_block b l.child ≡ true
  pub parent_in : has_block b l.parent ≡ true
  pub parent_below : l.parent < l.child

link-names : (b : List ℕ) (l : Link) → misnamed b l ≡ false → LinkNames b l
unfolding misnamed
link-names b l e =
    let child = not (has_block b l.child) in
    let parent = not (has_block b l.parent) in
    let both = or_left (child || parent) (leb l.child l.parent) e in
    record {
      child_in = not-false _ (or_left child parent both);
      parent_in = not-false _ (or_right child parent both);
      parent_below = leb-false _ _ (or_right (child || parent) _ e);
    }

links-name : (b : List ℕ) (l : List Link) → Each (λ x. misnamed b x ≡ false) l → Each (LinkNames b) l
links-name b [] e = tt
links-name b (x ∷ l) e = (link-names b x e.0, links-name b l e.1)

pub links-named : (b : List ℕ) → Accepted b → Each (LinkNames b) (links b)
unfolding wrong_link
links-named b a = links-name b (links b) (none_in (links b) (misnamed b) a.right_links)

-- The book's steps and blocks, read
pub steps-bounded : (b : List ℕ) → Accepted b → Each StepBounds (steps b)
unfolding steps
steps-bounded b a =
    each-image StepBounds (step_at b) (step_order b)
    (each_map (StepRecord b) (λ i. StepBounds (step_at b i)) (step_order b) (λ i h. h.fields) (step-records b a))

pub blocks-bounded : (b : List ℕ) → Accepted b → Each (BlockBounds (limits (edition b))) (blocks b)
unfolding blocks
blocks-bounded b a =
    each-image (BlockBounds (limits (edition b))) (block_at b) (block_order b)
    (each_map (BlockRecord b) (λ i. BlockBounds (limits (edition b)) (block_at b i)) (block_order b) (λ i h. h.fields) (block-records b a))

-- Every step is for an hour that counts
step-counted : (b : List ℕ) (i : ℕ) → StepRecord b i × (uncounted b (record_at b i) ≡ false) → is_counted (day_hours b) (step_at b i).hour ≡ true
unfolding uncounted
step-counted b i h = not-false _ (rw h.0.read at h.1)

pub step-hours-counted : (b : List ℕ) → Accepted b → Each (λ i. is_counted (day_hours b) (step_at b i).hour ≡ true) (step_order b)
unfolding wrong_hours uncounted_on step_order
step-hours-counted b a = at (eqb (day_hours b) spring_hours) refl
  where
    l : List ℕ
    l = chain_of b chain-of.Steps

    at : (spring : Bool) → eqb (day_hours b) spring_hours ≡ spring → Each (λ i. is_counted (day_hours b) (step_at b i).hour ≡ true) l
    at true e =
        let none = rw e at a.right_hours in
        each_map (λ i. StepRecord b i × (uncounted b (record_at b i) ≡ false)) (λ i. is_counted (day_hours b) (step_at b i).hour ≡ true) l (step-counted b)
        (each_both (StepRecord b) (λ i. uncounted b (record_at b i) ≡ false) l (step-records b a)
        (none_in l (λ i. uncounted b (record_at b i)) (on_none (uncounted_on b) none chain-of.Steps)))
    at false e =
        let long = (day-hours b a).0 in
        let other : day_hours b ≡ spring_hours → ⊥ = eqb-false _ _ e in
        let longer : spring_hours < day_hours b = omega arith in
        each_map (StepRecord b) (λ i. is_counted (day_hours b) (step_at b i).hour ≡ true) l (λ i r. all-counted (day_hours b) _ longer) (step-records b a)

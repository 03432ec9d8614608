-- S1 TO S10, THE DAYS OF 23 AND 25 HOURS, LINKS AND SHIFTED PRICES, FROM BOOK BYTES: each book is accepted, its orders are those of the rules' table, and so
-- what is published of it is what the table says. Reading computes; the rules are not computed again. Assumes nothing.
use Prim.Native.Nat.{ℕ}
use mathlib.Core.Path.{◌≡◌, refl, ap, ◌∙◌}
use mathlib.Core.List.{List, [], ◌∷◌}
use lib.ListN.{replicate}
use Rattle.records.specs.Bytes.{u16_at, u24_at, u32_at, nonzero}
use Rattle.fields.specs.Tests.{within, some_below, some_in, count_in}
use Rattle.rules.specs.Orders.{limits}
use Rattle.records.specs.Records.{step_at, block_at, link_at, link_rest, record_at, hours_set}
use Rattle.chains.specs.Chains.{chain_from, chains, is_on, step_order, block_order, link_order, links}
use Rattle.fields.specs.Ranges.{step_fits, block_fits, step_in_range, block_in_range, record_in_range, out_of_range, link_in_range}
use Rattle.chains.specs.Causes.{misplaced, broken, broken_on, broken_chain, wrong_field_on, wrong_field, stray, stray_record, owned_by}
use Rattle.chains.specs.Causes.{wrong_hours, uncounted, uncounted_on, is_number, has_block, misnamed, wrong_link, is_for, steps_for, more_steps_in, more_steps}
use Rattle.book.specs.Refusals.{wrong_size, links_too_early, wrong_head, too_many_of, too_many_blocks, too_many_steps, first_cause, own_causes, refusal}
use Rattle.fields.specs.Hours.{counted_hours}
use Rattle.rules.specs.Day.{weight, is_counted, sum_to, day_sum}
use Rattle.rules.specs.Outcome.{published}
use Rattle.rules.specs.WorkedDays.{WorkedDay, worked_days, change_days, linked_days, shifted_days, Hold}
use Rattle.rules.proofs.WorkedDayLaws.{worked-days-hold, change-days-hold, linked-days-hold, shifted-days-hold}
use Rattle.orders.specs.Bridge.{step_from, order_from, block_from, link_from, orders_of}
use Rattle.orders.specs.Columns.{block_records, padded, parent_among, place_among, parent_place_in, parent_place_at, parent_column}
use Rattle.orders.specs.WorkedBooks.{chained, book_with, worked_books, change_books, linked_books, shifted_books, family_book, EachWorked}

-- Every book of a list is accepted
AllAccepted : List (List ℕ) → Type 0
AllAccepted [] = Unit {0}
AllAccepted (b ∷ books) = (refusal b ≡ 0) × AllAccepted books

-- Every book of a list has the orders of its day
AllRead : List (List ℕ) → List WorkedDay → Type 0
AllRead [] [] = Unit {0}
AllRead [] (d ∷ days) = ⊥
AllRead (b ∷ books) [] = ⊥
AllRead (b ∷ books) (d ∷ days) = (orders_of b ≡ d.orders) × AllRead books days

-- What the table says of its orders it then says of the books
worked : (books : List (List ℕ)) (days : List WorkedDay) → AllAccepted books → AllRead books days → Hold days → EachWorked books days
unfolding AllAccepted AllRead
worked [] [] a r h = tt
worked [] (d ∷ days) a r h = r
worked (b ∷ books) [] a r h = r
worked (b ∷ books) (d ∷ days) a r h = (
  record { accepted = a.0; publishes = ap published r.0 ∙ h.0; answers = rw r.0 h.1 },
  worked books days a.1 r.1 h.2,
)

books-accepted : AllAccepted worked_books
unfolding AllAccepted worked_books book_with chained refusal own_causes first_cause wrong_size links_too_early wrong_head broken_chain broken_on broken misplaced wrong_field wrong_field_on
    out_of_range record_in_range step_in_range block_in_range step_fits block_fits stray_record stray too_many_blocks too_many_of owned_by within some_below some_in count_in
    nonzero limits hours_set record_at step_at block_at chain_from chains is_on link_order links u16_at u24_at u32_at wrong_hours wrong_link
    too_many_steps
books-accepted = (refl, (refl, (refl, (refl, (refl, (refl, (refl, (refl, (refl, (refl, tt))))))))))

books-read : AllRead worked_books worked_days
unfolding AllRead worked_books worked_days book_with chained orders_of order_from step_from block_from step_at block_at step_order block_order link_order chain_from u16_at u24_at u32_at
books-read = (refl, (refl, (refl, (refl, (refl, (refl, (refl, (refl, (refl, (refl, tt))))))))))

-- S1 TO S10
pub worked-books-hold : EachWorked worked_books worked_days
worked-books-hold = worked worked_books worked_days books-accepted books-read worked-days-hold

-- THE DAYS OF 23 AND 25 HOURS
change-books-accepted : AllAccepted change_books
unfolding AllAccepted change_books book_with chained refusal own_causes first_cause wrong_size links_too_early wrong_head broken_chain broken_on broken misplaced wrong_field wrong_field_on
    out_of_range record_in_range step_in_range block_in_range step_fits block_fits stray_record stray too_many_blocks too_many_of owned_by within some_below some_in count_in
    nonzero limits hours_set record_at step_at block_at chain_from chains is_on link_order links u16_at u24_at u32_at
    wrong_link too_many_steps wrong_hours uncounted_on uncounted counted_hours is_counted weight day_sum sum_to
change-books-accepted = (refl, (refl, (refl, (refl, tt))))

change-books-read : AllRead change_books change_days
unfolding AllRead change_books change_days book_with chained orders_of order_from step_from block_from step_at block_at step_order block_order link_order chain_from u16_at u24_at u32_at
change-books-read = (refl, (refl, (refl, (refl, tt))))

pub change-books-hold : EachWorked change_books change_days
change-books-hold = worked change_books change_days change-books-accepted change-books-read change-days-hold

-- THE DAYS WITH LINKED BLOCKS
linked-books-accepted : AllAccepted linked_books
unfolding AllAccepted linked_books book_with chained refusal own_causes first_cause wrong_size links_too_early wrong_head broken_chain broken_on broken misplaced wrong_field
    wrong_field_on out_of_range record_in_range step_in_range block_in_range link_in_range step_fits block_fits stray_record stray too_many_blocks too_many_of owned_by within some_below some_in
    count_in nonzero limits hours_set record_at step_at block_at link_at link_rest chain_from chains is_on block_order link_order links u16_at u24_at u32_at wrong_hours
    is_number has_block misnamed wrong_link too_many_steps
linked-books-accepted = (refl, (refl, (refl, (refl, (refl, tt)))))

linked-books-read : AllRead linked_books linked_days
unfolding AllRead linked_books linked_days book_with chained orders_of order_from step_from block_from link_from step_at block_at link_at step_order block_order link_order
    chain_from u16_at u24_at u32_at
linked-books-read = (refl, (refl, (refl, (refl, (refl, tt)))))

pub linked-books-hold : EachWorked linked_books linked_days
linked-books-hold = worked linked_books linked_days linked-books-accepted linked-books-read linked-days-hold

-- THE DAYS WHOSE PRICES CAN GIVE WAY
shifted-books-accepted : AllAccepted shifted_books
unfolding AllAccepted shifted_books book_with chained refusal own_causes first_cause wrong_size links_too_early wrong_head broken_chain broken_on broken misplaced wrong_field
    wrong_field_on out_of_range record_in_range step_in_range block_in_range step_fits block_fits stray_record stray too_many_blocks too_many_of owned_by within some_below some_in
    count_in nonzero limits hours_set record_at step_at block_at chain_from chains is_on link_order links u16_at u24_at u32_at
    wrong_link is_for steps_for more_steps_in more_steps too_many_steps wrong_hours uncounted_on uncounted counted_hours is_counted weight day_sum sum_to
shifted-books-accepted = (refl, (refl, (refl, (refl, (refl, (refl, (refl, tt)))))))

shifted-books-read : AllRead shifted_books shifted_days
unfolding AllRead shifted_books shifted_days book_with chained orders_of order_from step_from block_from step_at block_at step_order block_order link_order chain_from u16_at
    u24_at u32_at
shifted-books-read = (refl, (refl, (refl, (refl, (refl, (refl, (refl, tt)))))))

pub shifted-books-hold : EachWorked shifted_books shifted_days
shifted-books-hold = worked shifted_books shifted_days shifted-books-accepted shifted-books-read shifted-days-hold

-- LINKS
-- The book of a family is accepted, its links are those written, and the parents' column has for block 4 one more than the place of block 2, for block 5
-- one more than that of block 4
pub record FamilyRead : Type 0 where
  pub accepted : refusal family_book ≡ 0
  pub links_read : (orders_of family_book).links ≡ record { child = 4; parent = 2 } ∷ record { child = 5; parent = 4 } ∷ []
  pub parents_read : parent_column family_book ≡ 0 ∷ 0 ∷ 2 ∷ 3 ∷ replicate 28 0

pub family-read : FamilyRead
unfolding family_book book_with chained refusal own_causes first_cause wrong_size links_too_early wrong_head broken_chain broken_on broken misplaced wrong_field
    wrong_field_on out_of_range record_in_range step_in_range block_in_range link_in_range step_fits block_fits stray_record stray too_many_blocks too_many_of owned_by within some_below some_in
    count_in nonzero limits hours_set record_at step_at block_at link_at link_rest chain_from chains is_on block_order link_order links u16_at u24_at u32_at wrong_hours
    is_number has_block misnamed wrong_link too_many_steps orders_of link_from block_records padded parent_among place_among parent_place_in parent_place_at parent_column
family-read = record { accepted = refl; links_read = refl; parents_read = refl }

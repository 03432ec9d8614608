-- `accounts_of` meets its contract. Assumes nothing.
use Rattle.std.proofs.Common.{◌≤◌, refl, ap₂, ◌∙◌, arith}
use Rattle.places.specs.Hours.{counted_column}
use Rattle.gains.proofs.GainLaws.{prices-small, often-few}
use Rattle.accounts.proofs.AccountLaws.{empty-at, accounts-are}
use Rattle.accounts.proofs.accounts_of.Goals as goal

pub counted_prices-counted-requires : goal.counted_prices-counted-requires
counted_prices-counted-requires c =
    let a = c.requires.0 in
    let often : c.change_weight-often.result ≤ 2 = rw c.change_weight-often.ensures (often-few _ a _ c.day_hours.ensures) in
    (rw (c.prices_in.ensures, c.requires.1) (prices-small _ a), omega arith)

pub invariant_of-priced : goal.invariant_of-priced
invariant_of-priced c =
    let counted = c.counted_prices-counted.ensures in
    let often = c.change_weight-often.ensures in
    let day = c.day_hours.ensures in
    record {
      counts = record {
        prices_are = counted.0 ∙ ap₂ counted_column (often ∙ rw day) c.prices_in.ensures;
        prices_fit = counted.1;
        often_is = often ∙ rw day;
        often_few = rw often (often-few _ c.requires.0 _ day);
      };
    }

pub post_steps-requires : goal.post_steps-requires
post_steps-requires c = (c.requires.0, record { size = refl; free = λ i. omega (arith, empty-at i) })

pub post_blocks-requires : goal.post_blocks-requires
post_blocks-requires c =
    let posted = c.post_steps.ensures in
    (c.requires.0, record { size = posted.size; free = λ i. omega (arith, posted.most i, empty-at i) })

pub returns : goal.returns
returns c = accounts-are _ _ _ _ _ _ c.post_steps.ensures c.post_blocks.ensures

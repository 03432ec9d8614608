use Rattle.std.proofs.Common.{length, map}
use Rattle.records.specs.Records.{day_hours}
use Rattle.chains.specs.Chains.{step_order}
use Rattle.chains.specs.Passes.{to_follow}
use Rattle.chains.proofs.Members.{Each}
use Rattle.result.specs.Result.{price_in}
use Rattle.accounts.specs.Accounts.{step_in, steps_in}
use Rattle.accounts.specs.Postings.{most_of_step, StepFits}
use Rattle.accounts.proofs.WalkLaws.{Underway}
use Rattle.accounts.proofs.post_steps.Given as goal

abbrev pub invariant-loop-k : goal.invariant-loop-k
invariant-loop-k l =
    record {
      underway : Underway (day_hours l.priced.book.now) (price_in l.priced.res.now) most_of_step (steps_in l.priced.book.now l.priced.res.now) (map (step_in l.priced.book.now l.priced.res.now) (to_follow l.k-iterator))
          (length (step_order l.priced.book.now)) (length (to_follow l.k-iterator)) l.initial.accounts l.accounts;
      fits : Each (StepFits l.priced.book.now) (to_follow l.k-iterator);
    }

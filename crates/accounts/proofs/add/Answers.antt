-- `add` meets its contract. Assumes nothing.
use Rattle.std.proofs.Common.{rules, refl}
use Rattle.accounts.proofs.PostingLaws.{totals-fit, added}
use Rattle.accounts.proofs.add.Goals as goal

pub overflow_add-accounts : goal.overflow_add-accounts
overflow_add-accounts c = record { fits = c.requires.0.free _ }

pub overflow_add-accounts-2 : goal.overflow_add-accounts-2
overflow_add-accounts-2 c =
    record {
      fits = rw (c.from.ensures, c.from-2.ensures)
          (totals-fit c.args.accounts.now c.args.column c.args.portfolio c.args.n c.requires.0.size c.requires.1 c.requires.2 (search rules) c.requires.0.free);
    }

pub returns : goal.returns
returns c =
    rw (c.from.ensures, c.from-2.ensures)
    (added _ c.args.column c.args.portfolio _ c.requires.0.size c.requires.1 c.requires.2 (search rules) _ refl)

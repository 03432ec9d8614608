-- `records::bytes::is_nonzero` meets its contract: some byte of the run is not 0. Assumes nothing.
use Rattle.std.proofs.Common.{rules, tests, refl, arith, not, ◌+◌}
use Rattle.std.proofs.lemmas.Iterator.{YieldsList-from_range}
use Rattle.std.proofs.lemmas.Iterator.Search.{any_from_yields_List}
use Rattle.records.specs.Bytes.{byte_at}
use lib.Dec.{eqb}
use Rattle.records.proofs.Laws.{nonzero-any}
use Rattle.records.proofs.bytes.is_nonzero.Goals as goal

pub returns : goal.returns
returns c =
    let book = c.args.book.now in
    rw (← nonzero-any book c.args.at c.args.count)
    (any_from_yields_List (λ i. not (eqb (byte_at book i) 0)) _ _ _ c.any.ensures.ran
    (YieldsList-from_range c.args.at (c.args.at + c.from.result) c.args.count refl (omega (arith, c.from.ensures))) (λ x b q k. search (rules, tests)))

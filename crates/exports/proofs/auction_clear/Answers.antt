-- `exports::auction_clear` meets its contract. Assumes nothing.
use mathlib.Core.Path.{refl, sym, ◌∙◌}
use Rattle.exports.proofs.NumberLaws.{number-told, number-not-0}
use Rattle.exports.proofs.auction_clear.Goals as goal

pub returns-in-Ok : goal.returns-in-Ok
returns-in-Ok c =
    let p = c.in-Ok.ensures in
    record { answer = number-told _ _ _ p.answers; bytes = p.bytes; demands = λ _. p.demands refl }

pub returns-in-Err : goal.returns-in-Err
returns-in-Err c =
    let p = c.in-Err.ensures in
    record {
      answer = c.number_of.ensures ∙ number-told _ _ _ p.answers;
      bytes = p.bytes;
      demands = λ none. absurd (number-not-0 _ (sym c.number_of.ensures ∙ none));
    }

use Rattle.std.proofs.Common.{◌≡◌, ◌/◌, ◌^◌, ◌≤◌}
use Rattle.records.specs.Records.{hours_set}
use Rattle.records.proofs.records.hour_count.Given as goal

abbrev pub invariant-loop : goal.invariant-loop
invariant-loop l =
    record { rest_is : l.rest ≡ l.hours / 2 ^ l.counter; count_is : l.count ≡ hours_set l.counter l.hours; few : l.count ≤ l.counter }

-- `clearing::publish::publish` meets its contract: the blocks' columns are the fronts of their arrays. Assumes nothing.
use Rattle.std.proofs.Common.{rules}
use Rattle.places.proofs.StepLaws.{small-take}
use Rattle.clearing.proofs.PublishLaws.{Fronts, fronts-sized, fronts-records, fronts-prices, fronts-columns, fronts-chosen}
use Rattle.clearing.proofs.publish.publish.Goals as goal

pub invariant_of-fronts : goal.invariant_of-fronts
invariant_of-fronts c =
    let b = c.args.blocks.now in
    let f : Fronts b.count b.records b.sides b.hours b.prices b.quantities = record {
      few = c.requires.few_blocks;
      in_records = search rules;
      in_sides = search rules;
      in_hours = search rules;
      in_prices = search rules;
      in_quantities = search rules;
    } in
    record {
      sized = fronts-sized f c.requires.block_quantities_fit;
      as_many_records = fronts-records f;
      as_many_prices = fronts-prices f;
      prices_fit = small-take _ _ _ c.requires.block_prices_fit;
    }

pub returns : goal.returns
returns c =
    let b = c.args.blocks.now in
    let f : Fronts b.count b.records b.sides b.hours b.prices b.quantities = record {
      few = c.requires.few_blocks;
      in_records = search rules;
      in_sides = search rules;
      in_hours = search rules;
      in_prices = search rules;
      in_quantities = search rules;
    } in
    λ book a hours steps blocks chosen day same.
    c.publish_columns.ensures book a hours steps (fronts-columns f book blocks) (fronts-chosen f _ _ chosen) day same

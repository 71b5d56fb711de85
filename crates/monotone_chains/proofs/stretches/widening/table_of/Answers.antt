use Rattle.std.proofs.Common.{rules, length}
use Rattle.monotone_chains.proofs.StretchLemmas.LongOnes.{HasLong-permuted}
use Rattle.monotone_chains.proofs.StretchLemmas.Table.{in_order-from_sort}
use Rattle.monotone_chains.proofs.stretches.widening.table_of.Goals as goal

pub returns : goal.returns
returns g c =
    let parts = c.args.parts.now in
    let table = c.sort_unstable_by_key.new.self.items in
    record {
      each = c.requires;
      long = HasLong-permuted parts (length parts) c.push_long.new.table.items table c.sort_unstable_by_key.ensures.permutation c.in_ok-push_long.ensures;
      in_order = in_order-from_sort (λ a r q k. search rules) table c.sort_unstable_by_key.ensures.sorted;
    }

use Rattle.std.proofs.Common.{◌+◌, ◌∙◌, Some, ap, arith, length, map}
use Rattle.std.proofs.lemmas.List.{length-map, length_push, take_all}
use Rattle.arrow_memory.specs.Rows.{slot}
use Rattle.arrow_column.specs.Column.{slots_of}
use Rattle.compute_group.specs.Hashes.{hash_slot}
use Rattle.compute_group.proofs.GroupLemmas.{hashes_more, seen_slot}
use Rattle.compute_group.proofs.hash.hash_slots.Goals as goal

pub loop-i-preserved : goal.loop-i-preserved
loop-i-preserved g c =
    let seen = g.A.HashSlots.key_seen in
    record {
      hashes = hashes_more g.A.Key.Hash.hash_input g.A.HashSlots.input seen c.key_at-key.ensures.feeds
          (slots_of (g.A.Array.column c.args.array.now)) c.loop-i.i
          (slot (c.key_at-key.result.0, c.key_at-key.result.1)) c.hash_row.result c.loop-i.hashes.items c.push_reserved.new.self.items c.loop-i.invariant.hashes
          (c.key_at-key.ensures.slot ∙ ap Some (seen_slot seen c.key_at-key.result.0 c.key_at-key.result.1))
          c.hash_row.ensures c.push_reserved.ensures.items;
      count = ap (λ xs. length xs) c.push_reserved.ensures.items ∙ length_push c.loop-i.hashes.items c.hash_row.result
          ∙ ap (λ n. n + 1) c.loop-i.invariant.count;
      room = c.push_reserved.ensures.capacity ∙ c.loop-i.invariant.room;
    }

pub returns : goal.returns
returns g c =
    let column = g.A.Array.column c.args.array.now in
    c.loop-i.invariant.hashes
    ∙ ap (map (hash_slot g.A.HashSlots.input)) (take_all c.loop-i.i (slots_of column)
    (omega (arith, length-map column.rows slot)))

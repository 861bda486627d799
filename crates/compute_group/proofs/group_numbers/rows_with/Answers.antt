use Rattle.std.proofs.Common.{◌≡◌, ◌∙◌, ap, arith, length}
use Rattle.std.specs.List.{filter, range_with_len}
use Rattle.compute_group.specs.Grouping.{is_in_group}
use Rattle.compute_group.proofs.GroupLemmas.{rows-more}
use Rattle.compute_group.proofs.group_numbers.rows_with.Goals as goal

pub loop-i-preserved : goal.loop-i-preserved
loop-i-preserved c =
    c.in_ok-push_row.ensures
    ∙ rows-more c.args.indices.now c.args.group c.loop-i.i c.loop-i.rows.items c.loop-i.invariant

pub returns : goal.returns
returns c =
    let all : c.loop-i.i ≡ length c.args.indices.now = omega arith in
    c.loop-i.invariant ∙ ap (λ n. filter (is_in_group c.args.indices.now c.args.group) (range_with_len 0 n)) all

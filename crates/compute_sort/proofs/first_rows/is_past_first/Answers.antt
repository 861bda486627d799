use Rattle.std.proofs.Common.{◌∙◌, ◌-◌, ap, arith, get_or}
use Rattle.std.specs.Ordering.{is_ge}
use Rattle.std.proofs.lemmas.List.{get_or_default}
use Rattle.compute_sort.specs.Columns.{then_index}
use Rattle.compute_sort.proofs.SelectLemmas.{ge-not-lt}
use Rattle.compute_sort.proofs.first_rows.is_past_first.Goals as goal

pub returns-then-limit-kept : goal.returns-then-limit-kept
returns-then-limit-kept g c = λ past.
    let kept = c.args.kept.now in
    let last = get_or kept (c.args.limit - 1) 0 in
    record {
      enough = c.if-limit-kept.true;
      last = last;
      at = get_or_default kept (c.args.limit - 1) 0 last (omega (arith, c.requires, c.if-limit-kept.true));
      past =
          ge-not-lt (then_index (g.R.RowOrder.order c.args.rows.now) c.args.row last) c.is_ge.result
          (c.is_ge.ensures ∙ ap is_ge c.compare_indexes.ensures) past;
    }

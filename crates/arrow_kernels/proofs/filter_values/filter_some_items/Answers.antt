use Rattle.std.proofs.Common.{ap, arith, length, refl, ◌∙◌}
use Rattle.arrow_bytes.specs.Pieces.{bare_items}
use Rattle.arrow_kernels.proofs.ChoiceLemmas.{where-all}
use Rattle.arrow_kernels.proofs.filter_values.filter_some_items.Goals as goal

pub keep_rows-requires : goal.keep_rows-requires
keep_rows-requires g c = record {
  same = c.requires;
  so_far = c.in_ok-kept.ensures.ok;
  fits = omega (arith, c.byte_count.ensures.count, c.byte_count.ensures.within);
}

pub returns-clause-ok : goal.returns-clause-ok
returns-clause-ok g c =
    c.in_ok-keep_rows.ensures.so_far
    ∙ ap bare_items (where-all c.args.selected.now c.args.items (length c.args.selected.now) refl c.requires)

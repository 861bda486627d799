use Rattle.std.proofs.Common.{arith, length, refl, ◌∙◌}
use Rattle.arrow_kernels.proofs.ChoiceLemmas.{count-le, where-all}
use Rattle.arrow_kernels.proofs.filter_values.filter_some_values.Goals as goal

pub keep_rows-requires : goal.keep_rows-requires
keep_rows-requires g c = record {
  same = c.requires;
  so_far = c.in_ok-kept.ensures.items;
  fits = omega (
    arith,
    c.in_ok-kept.ensures.capacity,
    c.len.ensures,
    c.unset_bits.ensures,
    count-le c.args.selected.now,
  );
}

pub returns-clause-ok : goal.returns-clause-ok
returns-clause-ok g c =
    c.in_ok-keep_rows.ensures.so_far
    ∙ where-all c.args.selected.now c.args.values.now (length c.args.selected.now) refl c.requires

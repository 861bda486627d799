use Rattle.std.proofs.Common.{◌≡◌, ◌∙◌, ◌<◌, [], ap, arith, get_or, length, refl, rules, subst, sym}
use Rattle.std.proofs.lemmas.Option.{slice_get-get_or}
use Rattle.csv.specs.Records.{fields_of}
use Rattle.example_csv.specs.Builders.{CannotPush, GrowsBy}
use Rattle.example_csv.proofs.ReadLemmas.{all-built-more, field-or, grown-more, left-more, take-front, weaken-err}
use Rattle.example_csv.proofs.read.push_record.Goals as goal

pub returns-in_err-push-clause-err : goal.returns-in_err-push-clause-err
returns-in_err-push-clause-err c =
    let inv = rw c.deref_mut-column-items.ensures.value at c.loop-i.invariant in
    let d = c.column-item.result in
    let here = inv.1 c.loop-i.i d (omega arith) in
    let field = field-or (fields_of c.args.row.now) c.loop-i.i c.get.result c.unwrap_or.result _ c.get.ensures.value
    c.unwrap_or.ensures refl in
    let within : c.loop-i.i < length c.args.columns.now.items =
    omega (arith, c.loop-i-test.true, ap length c.deref_mut-column-items.ensures.value) in
    weaken-err c.from_residual.result _ _ c.from_residual.ensures.1 (λ e is. (
      c.loop-i.i,
      get_or c.args.columns.now.items c.loop-i.i d,
      slice_get-get_or c.args.columns.now.items c.loop-i.i d within,
      rw (is, ← here, ← field) c.in_err-push.ensures.err,
    ))

pub loop-i-preserved : goal.loop-i-preserved
loop-i-preserved c =
    let field = field-or (fields_of c.args.row.now) c.loop-i.i c.get.result c.unwrap_or.result _ c.get.ensures.value
    c.unwrap_or.ensures refl in
    let grows = rw field at c.in_ok-push.ensures.ok in
    let within : c.loop-i.i < length c.loop-i.column-items =
    omega (arith, c.loop-i-test.true, c.loop-i.auto.column-items) in (
      grown-more _ c.loop-i.column-items (fields_of c.args.row.now) c.loop-i.i c.push.new.self c.column-item.result within
          c.loop-i.invariant.0 c.loop-i.invariant.1 grows,
      left-more _ c.loop-i.column-items (fields_of c.args.row.now) c.loop-i.i c.push.new.self c.column-item.result within
          c.loop-i.invariant.0 c.loop-i.invariant.1 grows,
    )

pub returns-clause-ok : goal.returns-clause-ok
returns-clause-ok c = λ headers rows built.
    let inv = rw c.deref_mut-column-items.ensures.value at c.loop-i.invariant in
    let same : length c.loop-i.column-items ≡ length c.args.columns.now.items =
    c.loop-i.auto.column-items ∙ ap length c.deref_mut-column-items.ensures.value in
    let all : c.args.columns.now.len ≡ length c.loop-i.column-items = search rules in
    rw (take-front c.loop-i.column-items _ c.args.columns.now.len all) (
    all-built-more headers rows c.args.columns.now.items c.loop-i.column-items (fields_of c.args.row.now) same
    (λ k d h. inv.0 k d (omega (arith, c.loop-i-test.false, h, ap length c.deref_mut-column-items.ensures.value)))
    built
    )

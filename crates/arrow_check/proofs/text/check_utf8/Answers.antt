use Rattle.std.proofs.lemmas.Result.{IfErr-weaker, on_ok_weaker}
use Rattle.arrow_memory.specs.Offsets.{numbers_of}
use Rattle.arrow_check.proofs.WindowLemmas.{cuts-texts, passes-whole}
use Rattle.arrow_check.proofs.text.check_utf8.Goals as goal

pub returns-clause-ok : goal.returns-clause-ok
returns-clause-ok g c = on_ok_weaker c.check_text.result
    (cuts-texts (numbers_of g.O.Offset.number c.args.offsets.now) c.args.text.now.bytes c.requires.legal)
    c.check_text.ensures.ok

pub returns-clause-err : goal.returns-clause-err
returns-clause-err g c =
    let whole = passes-whole (numbers_of g.O.Offset.number c.args.offsets.now) c.args.text.now.bytes c.requires.legal in
    IfErr-weaker c.check_text.result _ _ (λ e why. ((λ cuts. why.0 (whole cuts)), why.1)) c.check_text.ensures.err

pub returns-clause-exact : goal.returns-clause-exact
returns-clause-exact g c =
    let whole = passes-whole (numbers_of g.O.Offset.number c.args.offsets.now) c.args.text.now.bytes c.requires.legal in
    let exact = c.check_text.ensures.exact in
    record { past = exact.past; ascii = exact.ascii; other = exact.other; passed = λ cuts. exact.passed (whole cuts) }

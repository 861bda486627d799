use Rattle.std.proofs.Common.{◌≡◌, ◌∙◌, ap, arith, length, subst, sym}
use Rattle.arrow_memory.specs.Marks.{marks}
use Rattle.compute_base.specs.Words.{HasMarks}
use Rattle.compute_base.proofs.WordLemmas.{all-marks, all-written}
use Rattle.compute_base.proofs.words.collect_blocks.Goals as goal

pub returns : goal.returns
returns g c =
    let truths = g.S.MarkWords.marks c.args.source.now in
    let len = c.len-len.result in
    let bytes = c.write_blocks.new.target in
    let sized = c.resize.new.self in
    let long : sized.len ≡ length bytes = omega (arith, c.write_blocks.ensures.len, c.deref_mut.ensures.len) in
    c.from_bytes.ensures ∙ ap (λ bytes. marks bytes 0 len) (all-written bytes sized.items sized.len long)
    ∙ all-marks truths bytes len (subst (HasMarks truths bytes) (sym c.len-len.ensures) c.write_blocks.ensures.marks)
    c.len-len.ensures

use Rattle.std.proofs.Common.{◌≡◌, ◌+◌, ◌*◌, ◌/◌, ◌++◌, ◌∙◌, ap, arith, drop, false, get_or, length, subst, sym, take, zero-add}
use Rattle.std.proofs.Math.Seq.{take-append_seam}
use Rattle.arrow_bitmap.specs.Marks.{mark_at}
use Rattle.arrow_bitmap.specs.MarkWrites.{AppendsCombined}
use Rattle.arrow_bitmap.proofs.MarkLemmas.{mark_of_same}
use Rattle.arrow_bitmap.proofs.ops.push_blocks.Goals as goal

pub returns-clause-marks : goal.returns-clause-marks
returns-clause-marks g c =
    let op = g.O.MarkOp.op in
    let first = c.args.first.now in
    let second = c.args.second.now in
    let n = c.args.n in
    let old = c.args.bytes.items in
    let start = c.len-start.result in
    let sized = c.resize.new.self.items in
    let made = c.write_blocks.new.target in
    let rest = drop (length made) sized in
    let all : c.resize.new.self.len ≡ start + n = c.in-Ok.ensures.len in
    let from : start ≡ length old = omega (arith, c.len-start.ensures, c.args.bytes.ok.0) in
    let long : c.resize.new.self.len ≡ length made = omega (
      arith,
      c.write_blocks.ensures.len,
      c.deref_mut.ensures.len,
    ) in
    let whole : take c.resize.new.self.len (made ++ rest) ≡ made =
    ap (λ k. take k (made ++ rest)) long ∙ take-append_seam made rest in
    subst (AppendsCombined op first second 0 (8 * n) old) (sym whole) (record {
      kept = λ i low. c.write_blocks.ensures.marks.kept i (omega (arith, low, from))
          ∙ ap (λ xs. mark_at xs i) c.deref_mut.ensures.value
          ∙ mark_of_same sized old i (c.in-Ok.ensures.by_index.0 (i / 8) 0 (omega (arith, low, from))
          (omega (arith, low, from, c.len-start.ensures)));
      added = λ k low.
          let place : 8 * length old + k ≡ 8 * start + k = omega (arith, from) in
          ap (mark_at made) place
          ∙ c.write_blocks.ensures.marks.written k (omega (arith, low, all, c.deref_mut.ensures.len))
          ∙ ap (λ i. op (get_or first i false) (get_or second i false)) (sym (zero-add k));
    })

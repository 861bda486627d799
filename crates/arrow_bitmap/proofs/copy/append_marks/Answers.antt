use Rattle.std.proofs.Common.{◌/◌, ◌∙◌, ap, arith, false, get_or, length, sym, zero-add}
use Rattle.arrow_bitmap.proofs.AppendLemmas.{appends-bytes, marked}
use Rattle.arrow_bitmap.proofs.MarkLemmas.{mark_of_same}
use Rattle.arrow_bitmap.proofs.copy.append_marks.Goals as goal

pub returns-in-Some-clause-ok : goal.returns-in-Some-clause-ok
returns-in-Some-clause-ok c =
    let source = c.args.source.now in
    let whole = c.in-Some.whole.now in
    appends-bytes (λ mark other. mark) source source 0 (length source) c.args.bytes.now.items whole
    c.extend_from_slice.new.self.items c.in_ok-extend_from_slice.ensures.items (λ k low.
    marked whole source c.in-Some.ensures.marks k low ∙ ap (λ i. get_or source i false) (sym (zero-add k)))

pub returns-in-Some-clause-kept : goal.returns-in-Some-clause-kept
returns-in-Some-clause-kept c = λ i low. mark_of_same c.extend_from_slice.new.self.items
    c.args.bytes.now.items i (c.extend_from_slice.ensures.by_index.0 (i / 8) 0 (omega (arith, low)))

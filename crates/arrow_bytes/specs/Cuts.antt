-- What lies around a cut of a cut of items: the proof of a law that stored values have.
use Rattle.std.proofs.Common.{◌≡◌, ℕ, ◌+◌, ◌-◌, ◌≤◌, List, ◌++◌, take, drop, sym, ap, ap₂, ◌∙◌, arith, append_assoc}
use Rattle.std.specs.List.{concat}
use Rattle.std.proofs.Math.Seq.{take-add}
use Rattle.std.proofs.lemmas.List.{take-take, take-append-drop, drop-drop, drop-take}
use Rattle.std.proofs.lemmas.List.Folds.{concat-append}
use Rattle.arrow_bytes.specs.Pieces.{Around, around_cut}

lead-twice : (lead : List ℕ) (items : List (List ℕ)) (a n b : ℕ) → b ≤ n
    → (lead ++ concat (take a items)) ++ concat (take b (take n (drop a items))) ≡ lead ++ concat (take (a + b) items)
lead-twice lead items a n b low =
    append_assoc lead (concat (take a items)) (concat (take b (take n (drop a items))))
    ∙ ap (λ rest. lead ++ rest) (
    sym (concat-append (take a items) (take b (take n (drop a items))))
    ∙ ap (λ more. concat (take a items ++ more)) (take-take b n (drop a items) low)
    ∙ ap concat (sym (take-add a b items))
    )

tail-twice : (tail : List ℕ) (items : List (List ℕ)) (a n p : ℕ) → p ≤ n
    → concat (drop p (take n (drop a items))) ++ (concat (drop (a + n) items) ++ tail) ≡ concat (drop (a + p) items)
    ++ tail
tail-twice tail items a n p low =
    let k = n - p in
    let all : n ≡ p + k = omega arith in
    let there : a + n ≡ k + (a + p) = omega arith in
    sym (append_assoc (concat (drop p (take n (drop a items)))) (concat (drop (a + n) items)) tail)
    ∙ ap (λ front. front ++ tail) (
    sym (concat-append (drop p (take n (drop a items))) (drop (a + n) items))
    ∙ ap concat (
    ap₂ (λ xs ys. xs ++ ys)
    (ap (λ m. drop p (take m (drop a items))) all ∙ drop-take p k (drop a items) ∙ ap (take k) (drop-drop p a items))
    (ap (λ m. drop m items) (let e : a + n ≡ (a + p) + k = omega arith in e) ∙ sym (drop-drop k (a + p) items))
    ∙ take-append-drop k (drop (a + p) items)
    )
    )

-- what lies around a piece of a piece is what lies around one piece
pub around-twice : (around : Around) (items : List (List ℕ)) (a n b m : ℕ) → b + m ≤ n
    → around_cut (around_cut around items a n) (take n (drop a items)) b m ≡ around_cut around items (a + b) m
around-twice around items a n b m within =
    let low : b ≤ n = omega (arith, within) in
    let end : a + (b + m) ≡ a + b + m = omega arith in
    ap₂ (λ lead tail. let whole : Around = record { lead = lead; tail = tail } in whole)
    (lead-twice around.lead items a n b low)
    (tail-twice around.tail items a n (b + m) within ∙ ap (λ p. concat (drop p items) ++ around.tail) end)

-- Lemmas about the slots that stored values and marks make.
use Rattle.std.proofs.Common.{◌≡◌, ℕ, suc, ◌+◌, ◌<◌, Bool, true, List, [], ◌∷◌, ◌++◌, length, map, min, Option}
use Rattle.std.proofs.Common.{Some, None, option_map, IfSome, refl, sym, ap, ◌∙◌, arith}
use Rattle.std.specs.Prelude.{⊤}
use Rattle.std.specs.Iterator.{MakesProgress, item_count}
use Rattle.std.specs.List.{zip}
use Rattle.std.proofs.lemmas.List.{length-map, map-append, length_push}
use Rattle.std.proofs.lemmas.Slice.Zip.{length-zip}
use Rattle.arrow_bitmap.specs.MarkWrites.{TakesLastMark}
use Rattle.arrow_memory.specs.Rows.{slot, rows_of}

pub length-rows_of : {S : Type 0} (values : List S) (mask : Option (List Bool))
    → IfSome mask (λ marks. length marks ≡ length values) → length (rows_of values mask) ≡ length values
length-rows_of values None same = length-map values _
length-rows_of values (Some marks) same = length-zip values marks ∙ let e : min (length values) (length marks)
    ≡ length values = omega (arith, same) in e

-- as many slots as values
pub length-slots : {S : Type 0} (values : List S) (mask : Option (List Bool))
    → IfSome mask (λ marks. length marks ≡ length values) → length (map slot (rows_of values mask)) ≡ length values
length-slots values mask same = length-map (rows_of values mask) slot ∙ length-rows_of values mask same

-- ---- the last slot

drop_one : (m n : ℕ) → suc m ≡ suc n → m ≡ n
drop_one m n e = omega arith

zip_push : {S : Type 0} (values : List S) (marks : List Bool) (v : S) (b : Bool) → length marks ≡ length values
    → zip (values ++ v ∷ []) (marks ++ b ∷ []) ≡ zip values marks ++ (v, b) ∷ []
zip_push [] [] v b e = refl
zip_push [] (m ∷ marks) v b e = cc
zip_push (x ∷ values) [] v b e = cc
zip_push (x ∷ values) (m ∷ marks) v b e = ap (λ rest. (x, m) ∷ rest) (zip_push values marks v b (drop_one _ _ e))

rows_push : {S : Type 0} (values : List S) (mask rest : Option (List Bool)) (v : S) (b : Bool)
    → IfSome mask (λ marks. length marks ≡ length values + 1) → TakesLastMark mask rest b
    → rows_of (values ++ v ∷ []) mask ≡ rows_of values rest ++ (v, b) ∷ []
rows_push values None None v b fits takes = map-append (λ x. (x, true)) values (v ∷ [])
    ∙ ap (λ mark. map (λ x. (x, true)) values ++ (v, mark) ∷ []) (sym takes.1)
rows_push values None (Some rest) v b fits takes = cc
rows_push values (Some marks) None v b fits takes = absurd takes
rows_push values (Some marks) (Some rest) v b fits takes =
    let long : length rest ≡ length values = omega (arith, fits, ap length takes, length_push rest b) in
    ap (zip (values ++ v ∷ [])) takes ∙ zip_push values rest v b long

fits_push : {S : Type 0} (mask : Option (List Bool)) (all values : List S) (v : S) → all ≡ values ++ v ∷ []
    → IfSome mask (λ marks. length marks ≡ length all) → IfSome mask (λ marks. length marks ≡ length values + 1)
fits_push None all values v split fits = fits
fits_push (Some marks) all values v split fits = fits ∙ ap length split ∙ length_push values v

pub slots_push : {S : Type 0} (all values : List S) (mask rest : Option (List Bool)) (v : S) (b : Bool)
    → all ≡ values ++ v ∷ [] → IfSome mask (λ marks. length marks ≡ length all) → TakesLastMark mask rest b
    → map slot (rows_of all mask) ≡ map slot (rows_of values rest) ++ slot (v, b) ∷ []
slots_push all values mask rest v b split fits takes =
    ap (λ xs. map slot (rows_of xs mask)) split
    ∙ ap (map slot) (rows_push values mask rest v b (fits_push mask all values v split fits) takes)
    ∙ map-append slot (rows_of values rest) ((v, b) ∷ [])

-- an item off the back leaves fewer
pub progress_push : {X A : Type 0} (s t : List X) (r : A) (x : X) → s ≡ t ++ x ∷ []
    → MakesProgress (λ _. ⊤) (item_count {A = X} (λ xs. xs)) s (Some r) t
progress_push s t r x e = record {
  on = λ _. (tt, tt, let fewer : length t < length s = omega (arith, ap length e, length_push t x) in fewer);
  keeps = tt;
  rests = λ _. tt;
}

-- the marks of an iterator over them
pub fits_marks : {M : Type 0} (marks : M → List Bool) (iterator : Option M) (n : ℕ)
    → IfSome iterator (λ m. length (marks m) ≡ n) → IfSome (option_map marks iterator) (λ m. length m ≡ n)
fits_marks marks None n fits = fits
fits_marks marks (Some m) n fits = fits

-- What a check of texts says of bytes in which the offsets lie.
use Rattle.std.proofs.Common.{◌≡◌, ◌≤◌, ◌∙◌, ap, List, ℕ, length, Result, Ok, Err, OnOk, IfErr, sym, subst}
use Rattle.std.proofs.Common.{true, if◌then◌else◌}
use Rattle.std.proofs.lemmas.Bool.{le-ltb}
use Rattle.arrow_types.specs.declared.error.Error.{Error}
use Rattle.arrow_types.specs.Types.{refusal}
use Rattle.arrow_memory.specs.Offsets.{last_of}
use Rattle.arrow_check.specs.Bounds.{past_values}
use Rattle.arrow_check.specs.Pieces.{items_of}
use Rattle.arrow_check.specs.Reading.{Cost, Reading}
use Rattle.arrow_check.specs.Texts.{AreTexts, CutTexts, not_text, text_refusal}
use Rattle.arrow_check.specs.Windows.{ReadsOnce}
use Rattle.arrow_bytes.specs.Kinds.{Costs}

not-past : (offsets bytes : List ℕ) → last_of offsets ≤ length bytes → text_refusal offsets bytes ≡ not_text
not-past offsets bytes within = ap (λ past. if past then past_values
    else not_text) (le-ltb (length bytes) (last_of offsets) within)

-- read are the bytes that were read, which are those that were given
module _ (offsets read bytes : List ℕ) (within : last_of offsets ≤ length bytes) (same : read ≡ bytes) where
  pub texts-tested : {X E : Type 0} (answer : Result X E) → OnOk answer (CutTexts offsets read)
      → OnOk answer (AreTexts (items_of offsets bytes))
  texts-tested (Ok x) ok = subst (λ b. AreTexts (items_of offsets b)) same ok.1
  texts-tested (Err e) ok = tt

  pub texts-refused : {X : Type 0} (answer : Result X Error)
      → IfErr answer (λ e. (¬ (CutTexts offsets read)) × (refusal e ≡ text_refusal offsets read))
      → IfErr answer (λ e. (AreTexts (items_of offsets bytes) → ⊥) × (refusal e ≡ not_text))
  texts-refused (Ok x) err = tt
  texts-refused (Err e) err = (
    λ texts. err.0 (subst (CutTexts offsets) (sym same) (within, texts)),
    err.1
        ∙ ap (text_refusal offsets) same ∙ not-past offsets bytes within,
  )

-- what a test cost is what is counted
pub costs-from : (offsets bytes : List ℕ) (before after : Reading) (old new : Cost) → before.bytes ≡ bytes
    → before.cost ≡ old → new ≡ after.cost → after.bytes ≡ before.bytes
    → ReadsOnce (CutTexts offsets before.bytes) offsets before after → Costs true offsets bytes old new
costs-from offsets bytes before after old new all began ended stays done =
    let start : before ≡ record { bytes = bytes; cost = old } = λ k. record { bytes = all k; cost = began k } in
    let end : after ≡ record { bytes = bytes; cost = new } = λ k. record {
      bytes = (stays ∙ all) k;
      cost =
          sym ended k;
    } in
    subst (ReadsOnce (CutTexts offsets bytes) offsets (record { bytes = bytes; cost = old })) end
    (subst (λ r. ReadsOnce (CutTexts offsets r.bytes) offsets r after) start done)

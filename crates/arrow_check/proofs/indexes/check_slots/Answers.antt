use Rattle.std.proofs.Common.{◌≡◌, ◌<◌, not, find, ap, sym, subst, ◌∙◌}
use Rattle.std.specs.Prelude.{All, IsErrAnd, IsOk, IsSomeAnd, MatchOption, OnOk}
use Rattle.std.specs.Option.{option_copied}
use Rattle.arrow_types.specs.IndexKey.{index_of}
use Rattle.arrow_types.specs.Types.{refusal}
use Rattle.arrow_check.specs.Indexes.{in_bounds, key_refusal, valid_keys}
use Rattle.arrow_check.proofs.KeyLemmas.{valid_keys-bare}
use Rattle.arrow_check.proofs.indexes.check_slots.Goals as goal

pub returns-in-None-clause-first : goal.returns-in-None-clause-first
returns-in-None-clause-first g c =
    let number = g.K.IndexKey.number in
    let keys = c.args.keys.now in
    let bare = ap (λ v. valid_keys keys (option_copied v)) c.in-None.is ∙ valid_keys-bare keys in
    subst (λ ks. MatchOption (find (λ key. not (in_bounds c.args.len (number key))) ks) (IsOk c.check_indexes.result) (λ
    key. IsErrAnd c.check_indexes.result (λ e. refusal e ≡ key_refusal (number key)))) (sym bare)
    c.check_indexes.ensures.first

pub returns-in-None-clause-ok : goal.returns-in-None-clause-ok
returns-in-None-clause-ok g c =
    let number = g.K.IndexKey.number in
    let keys = c.args.keys.now in
    let bare = ap (λ v. valid_keys keys (option_copied v)) c.in-None.is ∙ valid_keys-bare keys in
    subst (λ ks. OnOk c.check_indexes.result (All (λ key. IsSomeAnd (index_of (number key)) (λ index.
    index < c.args.len)) ks)) (sym bare) c.check_indexes.ensures.ok

pub returns-in-Some-clause-ok : goal.returns-in-Some-clause-ok
returns-in-Some-clause-ok g c =
    let number = g.K.IndexKey.number in
    let masked = ap (λ v. valid_keys c.args.keys.now (option_copied v)) c.in-Some.is in
    subst (λ ks. OnOk c.check_marked.result (All (λ key. IsSomeAnd (index_of (number key)) (λ index.
    index < c.args.len)) ks)) (sym masked) c.check_marked.ensures.ok

use Rattle.std.proofs.Common.{◌≡◌, ℕ, IfErr, length, rules, subst, vec_len}
use Rattle.arrow_types.specs.Types.{refusal}
use Rattle.arrow_memory.specs.Marks.{packed_refusal}
use Rattle.arrow_creation.proofs.Packed.{packed-refused}
use Rattle.arrow_creation.proofs.parts.raw.bitmap_from_parts.Goals as goal

pub returns-clause-err : goal.returns-clause-err
returns-clause-err c =
    let bytes = c.args.bits.bytes in
    let same : vec_len bytes ≡ length bytes.items = search rules in
    packed-refused (length bytes.items) c.args.bits.length c.try_new.result
    (subst (λ (bytes : ℕ). IfErr c.try_new.result (λ e. refusal e ≡ packed_refusal bytes c.args.bits.length)) same
    c.try_new.ensures.err)

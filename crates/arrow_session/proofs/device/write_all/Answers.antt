use Rattle.std.proofs.Common.{◌≡◌, ◌+◌, ◌-◌, ◌<◌, ◌≤◌, ◌++◌, length, List, ℕ, take, drop, sym, ap, ◌∙◌}
use Rattle.std.proofs.Common.{append_assoc, take-append-drop, length-drop, arith}
use Rattle.std.proofs.KnownBytes.{Appends-trans}
use Rattle.std.proofs.lemmas.List.{take_rest}
use Rattle.arrow_session.specs.Counted.{fault_count}
use Rattle.arrow_session.proofs.device.write_all.Goals as goal

put_more : (text front rest : List ℕ) (n : ℕ) → text ≡ front ++ rest
    → text ≡ (front ++ take n rest) ++ take (length rest - n) (drop n rest)
put_more text front rest n e =
    e ∙ ap (λ bytes. front ++ bytes) (sym (take-append-drop n rest)
    ∙ ap (λ bytes. take n rest ++ bytes) (sym (take_rest rest n))) ∙ sym (append_assoc front (take n rest) _)

length_rest : (rest : List ℕ) (n : ℕ) → length (take (length rest - n) (drop n rest)) ≡ length rest - n
length_rest rest n = ap length (take_rest rest n) ∙ length-drop n rest

shorter : (rest : List ℕ) (n counter all : ℕ) → n ≤ length rest → 0 < n → counter + length rest ≤ all
    → counter + 1 + length (take (length rest - n) (drop n rest)) ≤ all
shorter rest n counter all within some before = rw (length_rest rest n) (omega arith)

pub loop-preserved : goal.loop-preserved
loop-preserved g c =
    let rest = c.loop.rest.now in
    let n = c.in_ok-count.count in
    let put = c.loop.invariant.put in
    record {
      put = (
        put.0 ++ take n rest,
        put_more c.args.text.now put.0 rest n put.1,
        Appends-trans _ _ _ put.0
            (take n rest) put.2 c.in_ok-count.ensures.taken,
      );
      rising = omega arith;
      turns = λ low same.
          let kept : fault_count c.loop.output ≡ fault_count c.args.output.now = omega arith in
          shorter rest n c.loop.counter (length c.args.text.now)
          c.in_ok-count.ensures.within (c.in_ok-count.ensures.more (omega arith) (omega arith))
          (c.loop.invariant.turns low kept);
    }

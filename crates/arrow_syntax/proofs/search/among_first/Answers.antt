use Rattle.std.proofs.Common.{◌==◌, arith, eqb, take, w8}
use Rattle.std.proofs.lemmas.Bool.Decides.{nat_tests}
use Rattle.std.proofs.lemmas.Simd.{bitmask_splat, length-chunk}
use Rattle.arrow_syntax.proofs.Near.{place_from_mask}
use Rattle.arrow_syntax.proofs.search.among_first.Goals as goal

pub returns : goal.returns
returns g c =
    let text = c.args.text.now in
    let n = g.row.N in
    let long = length-chunk 0 n text (omega (arith, c.requires.within)) in
    place_from_mask (λ b. b == c.args.byte) text n (omega (arith, c.requires.within)) c.requires.few _
    (bitmask_splat w8 eqb (take n text) n c.args.byte long c.requires.few) (grind (arith, nat_tests)) (omega arith)

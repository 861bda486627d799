use Rattle.std.proofs.Common.{◌≡◌, length, slice_get, ap, arith}
use Rattle.arrow_bitmap.proofs.EqualityLemmas.{agree-all}
use Rattle.arrow_bitmap.proofs.equality.are_same.Goals as goal

pub returns-else-have_same_bytes : goal.returns-else-have_same_bytes
returns-else-have_same_bytes c =
    let long : length c.args.first.now ≡ length c.args.second.now = omega (
      arith,
      c.if-len.false,
      c.len.ensures,
      c.len-2.ensures,
    ) in (
      λ e. agree-all c.args.first.now c.args.second.now long (λ i low. c.agree_where.ensures.0 e i low tt),
      λ same. c.agree_where.ensures.1 (λ i low is. ap (λ marks. slice_get marks i) same),
    )

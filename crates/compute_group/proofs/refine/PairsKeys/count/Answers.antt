use Rattle.std.proofs.Common.{Some, arith}
use Rattle.std.specs.List.{zip}
use Rattle.std.proofs.lemmas.List.{length-map}
use Rattle.std.proofs.lemmas.Slice.Zip.{length-zip}
use Rattle.compute_group.proofs.refine.PairsKeys.count.Goals as goal

pub returns : goal.returns
returns c =
    let pairs = c.args.self.now in
    let rows = zip pairs.left.now pairs.right.now in
    omega (arith, length-map rows Some, length-zip pairs.left.now pairs.right.now, pairs.same)

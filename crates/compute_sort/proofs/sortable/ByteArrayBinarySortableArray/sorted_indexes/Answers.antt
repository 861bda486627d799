use Rattle.std.proofs.Common.{refl}
use Rattle.std.specs.Cmp.Lexicographic.{nat_list_cmp_total}
use Rattle.compute_sort.proofs.sortable.ByteArrayBinarySortableArray.sorted_indexes.Goals as goal

pub limited_indexes-requires : goal.limited_indexes-requires
limited_indexes-requires g c κs = ((refl, tt), nat_list_cmp_total)

use Rattle.std.proofs.Common.{◌<◌, ◌∙◌, None, Some, ap, arith, get_or, length, sym}
use Rattle.std.proofs.lemmas.List.{length-map}
use Rattle.std.proofs.lemmas.Option.{slice_get-get_or}
use Rattle.arrow_types.proofs.CallerLemmas.{get-map}
use Rattle.arrow_memory.specs.Rows.{slot}
use Rattle.arrow_column.specs.Column.{slots_of}
use Rattle.compute_cast.specs.Decimals.{value_of_slot}
use Rattle.compute_cast.proofs.bytes_to.ParsedSlotsSlotSource.slot.Goals as goal

pub parse_slot-requires : goal.parse_slot-requires
parse_slot-requires g c = omega (
  arith,
  c.requires,
  length-map (slots_of c.args.self.now.array.now) (value_of_slot g.T.NativeArithmetics.fits g.T.NativeArithmetics.wrap),
  length-map c.args.self.now.array.now.rows slot,
)

pub returns : goal.returns
returns g c =
    let value_of = value_of_slot g.T.NativeArithmetics.fits g.T.NativeArithmetics.wrap in
    let texts = slots_of c.args.self.now.array.now in
    let text = get_or texts c.args.i None in
    let low : c.args.i < length texts = omega (arith, c.requires, length-map texts value_of) in
    let found = slice_get-get_or texts c.args.i None low in
    get-map value_of texts c.args.i text found ∙ ap Some (sym (c.parse_slot.ensures text found))

use Rattle.std.proofs.Common.{ap, pos, sym, ◌∙◌}
use Rattle.dethrugn.specs.Column.{slots_of}
use Rattle.dethrugn.proofs.CallerLemmas.Column.{one-slot}
use Rattle.example_csv.specs.Fields.{parsed_number, slot_as}
use Rattle.example_csv.proofs.ConvertLemmas.{not-all, slots-more}
use Rattle.example_csv.proofs.builder.numbers_of.Goals as goal

pub returns-in-None-clause-ok : goal.returns-in-None-clause-ok
returns-in-None-clause-ok c =
    not-all (slot_as parsed_number) (slots_of c.args.column.now) c.loop-i.i _ c.get.ensures
    (sym c.number_slot.ensures ∙ c.in-None.is)

pub loop-i-preserved : goal.loop-i-preserved
loop-i-preserved c =
    slots-more (slot_as parsed_number) (slots_of c.loop-i.numbers) (slots_of c.push.new.self) (slots_of c.args.column.now)
    c.loop-i.i _ c.in-Some.slot (ap slots_of c.in_ok-push-in-Some.ensures.ok ∙ one-slot (pos 0) c.loop-i.numbers c.in-Some.slot)
    c.loop-i.invariant c.get.ensures (sym c.in-Some.is ∙ c.number_slot.ensures)

use Rattle.example_record_batch.proofs.SchemaLemmas.{shows-more}
use Rattle.example_record_batch.proofs.schema.SchemaDisplay.fmt.Goals as goal

pub loop-field-preserved : goal.loop-field-preserved
loop-field-preserved g c = shows-more g.W.Write.write_str_gives c.args.f.now c.loop-field.f c.writeln.new.self
    c.self.inside.fields.now c.loop-field.field-index c.field-item.result _ c.loop-field-test.true c.field-item.is
    c.data_type.ensures.value c.loop-field.invariant c.in_ok-writeln.ensures.writes

use Rattle.std.proofs.Common.{refl}
use Rattle.arrow_check.specs.Reading.{no_cost}
use Rattle.arrow_entry.specs.Entry.{table_of}
use Rattle.arrow_model.specs.Both.{narrow_to}
use Rattle.arrow_model.proofs.CallerLemmas.{fine-both}
use Rattle.arrow_table.proofs.tables.Tables.narrow_to.Goals as goal

pub invariant_of-self-inside : goal.invariant_of-self-inside
invariant_of-self-inside g c =
    let narrow = table_of c.self-inside.inside.0.0.entries.items no_cost in
    let wide = table_of c.self-inside.inside.0.1.0.entries.items no_cost in
    fine-both g.T.NativeType.zero g.T.NativeType.PRIMITIVE (record { narrow = narrow; wide = wide })
    (narrow_to c.args.e c.args.f) _
    (record { narrow = table_of c.put_at.new.entries.items no_cost; wide = wide })
    tt c.self-inside.invariant.0 c.self-inside.invariant.1 (c.put_at.ensures, refl, refl)

pub returns : goal.returns
returns g c =
    rw (← c.self.view_is, ← c.self-inside.view_is, c.reply_of.ensures) (c.put_at.ensures, refl, refl)

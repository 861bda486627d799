use Rattle.arrow_column.proofs.ColumnLemmas.{masked-slots, null-slot, shown-slot}
use Rattle.arrow_column.proofs.laws.slot_by_value.Goals as goal

pub returns-clause-masked : goal.returns-clause-masked
returns-clause-masked g c = λ column mask held. masked-slots column.held column.rows mask held

pub returns-clause-valid : goal.returns-clause-valid
returns-clause-valid g c = λ column i value is_column valid stored.
    shown-slot column.held column.rows i value is_column valid stored

pub returns-clause-null : goal.returns-clause-null
returns-clause-null g c = λ column i low clear. null-slot column.held column.rows i low clear

use Rattle.arrow_primitive.proofs.builder.MutablePrimitiveArray.apply_values.Goals as goal

pub returns : goal.returns
returns g c = rw (← c.self.view_is) c.apply_values.ensures

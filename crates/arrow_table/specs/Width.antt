-- The table of one width of offsets among two, and a request on it as a request on both.
use Rattle.std.specs.Prelude.{Bool, true, false, List}
use Rattle.arrow_model.specs.Answer.{Answer}
use Rattle.arrow_model.specs.Both.{Both, BothRequest, IsBothStep, narrow, wide}
use Rattle.arrow_model.specs.Request.{Request}
use Rattle.arrow_model.specs.Run.{CostsAtMost}
use Rattle.arrow_model.specs.Value.{TableState, NativeMembers}

-- the table of a width, whose layouts are the large ones where the width is 64 bits
abbrev pub half : {T : Type 0} → Bool → Both T → TableState T
half false both = both.narrow
half true both = both.wide

-- a request of the table of a width
abbrev pub on_width : {T : Type 0} → Bool → Request T → BothRequest T
on_width false = narrow
on_width true = wide

-- a step of the table of a width, and what requests of it cost at most
abbrev pub WidthStep : {T : Type 0} → NativeMembers T → Bool → Both T → Request T → Answer T → Both T → Type 0
WidthStep natives large old asks = IsBothStep natives.zero natives.PRIMITIVE old (on_width large asks)

abbrev pub WidthCosts : {T : Type 0} → Bool → List (Request T) → Both T → Both T → Type 0
WidthCosts large requests old new = CostsAtMost requests (half large old).cost (half large new).cost

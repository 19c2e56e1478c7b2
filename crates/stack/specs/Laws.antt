-- An edit of a layer does to the layer's own links and free what the edit is defined to do.
use Rattle.std.specs.Prelude.{◌≡◌, ℕ, Some, None, Option}
use Rattle.alignment.specs.Alignment.{Alignment}
use Rattle.sheet.specs.Edits.{State}
use Rattle.history.specs.declared.operation.Edit.{Edit}
use Rattle.history.specs.Operations.{editing}
use Rattle.stack.specs.Stacks.{Stack, reading, free_of}
use Rattle.stack.specs.Places.{stand, edited}

abbrev pub stands_with : Option ℕ → Alignment → Option State
stands_with None a = None
stands_with (Some f) a = Some (stand a f)

-- what an editable sheet on top of a stack stands at
abbrev pub stands_at : Stack → Option State
stands_at t = stands_with (free_of t) (reading t)

abbrev pub edited_at : Option State → Edit → Option State
edited_at None e = None
edited_at (Some s) e = Some (editing s e).after

abbrev pub EditsReachLayers : Type 0
EditsReachLayers = (t : Stack) (e : Edit) → stands_at (edited t e) ≡ edited_at (stands_at t) e

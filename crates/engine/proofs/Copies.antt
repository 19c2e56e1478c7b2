-- The links of a sheet, carried over by way of its text.
use Rattle.std.proofs.Common.{◌≡◌, ℕ, ◌-◌, List, length, Ok, Result, ap, ◌∙◌, arith}
use Rattle.std.proofs.lemmas.Bool.Decides.{nat_tests}
use Rattle.alignment.specs.Alignment.{Alignment}
use Rattle.alignment.specs.Links.{links}
use Rattle.sheet.specs.Edits.{State}
use Rattle.text.specs.Lines.{lines}
use Rattle.text.specs.Loading.{loading, loaded}
use Rattle.text.specs.ReadsBack.{ReadsBack}
use Rattle.text.specs.Written.{body_text}
use Rattle.engine.specs.Copying.{copied, copying, CarriesOver}
use Rattle.engine.specs.declared.copying.CopyFault.{CopyFault}

pub carries_over : (a : Alignment) → ReadsBack a → (s : State) (d : List ℕ) (r : Result ℕ CopyFault) (t : State) (after : List ℕ) → copied r t after ≡ copying a s d → CarriesOver a s (length d) r t
carries_over a back s d r t after done empty enough room =
    let again : loading 0 s (lines (body_text a)) ≡ loaded (Ok (links a)) (record { sheet = a; free = s.free - links a }) =
    ap (λ b. loading 0 (record { sheet = b; free = s.free }) (lines (body_text a))) empty ∙ back.links_again s.free enough in
    grind (arith, nat_tests)

-- Each field is a call's. Assumes nothing.
use mathlib.Core.Path.{◌≡◌, ◌∙◌}
use mathlib.Core.List.{List}
use Prim.Native.Nat.{ℕ, ◌*◌, ◌/◌}
use native.Mathlib.Omega.{arith}
use Rattle.bitfields.specs.Field.{field}
use Rattle.bitfields.proofs.Window.{word_whole}
use Rattle.records.specs.Layout.{ISSUER}
use Rattle.validity.proofs.fields.head_good.Goals as goal

pub returns : goal.returns
returns c =
    let l : List ℕ = c.args.s.now in
    let issuer : c.window-issuer.result ≡ field l ISSUER.bit (ISSUER.width * ISSUER.count) = c.window-issuer.ensures ∙ word_whole l (ISSUER.bit / 8) (λ i. omega (arith, c.fits-s i)) (omega arith) in
    simp (c.get_in-kind.ensures, c.get_in-start.ensures, c.get_in-end.ensures, issuer)

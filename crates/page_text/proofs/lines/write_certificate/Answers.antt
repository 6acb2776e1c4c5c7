-- `page_text::lines::write_certificate` meets its contract: its pieces one behind the other. Assumes nothing.
use mathlib.Core.Path.{◌≡◌, refl}
use lib.ListN.{length}
use native.Mathlib.Omega.{arith}
use Rattle.text.specs.Text.{hex_of, decimal_of}
use Rattle.text.proofs.Hex.{hex_long}
use Rattle.records.specs.Layout.{ID, NAME}
use Rattle.page_text.specs.Lines.{space, kind_word, name_of, line_of}
use Rattle.page_text.proofs.Printed.{decimal_two, kind_fits, name_fits, line_written}
use borrow.Author.Rules.{rules}
use Rattle.page_text.proofs.lines.write_certificate.Goals as goal

pub returns : goal.returns
unfolding line_of
returns c =
    let a = c.args in
    let i : length a.r.id ≡ ID.count = search (rules, c.well_formed.1.1.1.0) in
    let n : length a.r.name.octets ≡ NAME.count = search (rules, c.well_formed.1.1.1.0) in
    line_written a.text.now a.at (decimal_of a.slot) space (hex_of a.r.id) (kind_word a.r.scope.kind) (name_of a.r.name)
    c.write_decimal-a.ensures c.write_octet-b.ensures c.write_hex-c.ensures c.write_octet-d.ensures
    c.write_kind-e.ensures c.write_octet-f.ensures c.write_name-g.ensures c.write_octet.ensures
    (decimal_two a.slot c.requires.0) refl (omega (arith, hex_long a.r.id)) (kind_fits a.r.scope.kind) (name_fits a.r.name n) c.requires.1

-- The number, place and layer of each fault, and how a fault is printed.
use Rattle.std.specs.Prelude.{ℕ, List, [], ◌∷◌, ◌++◌, codes, decimal}
use Rattle.std.specs.List.{join_with_byte}
use Rattle.faults.specs.declared.texts.TheConstants.{TAB, LONGEST}
use Rattle.faults.specs.declared.types.FieldFault.{FieldFault}
use Rattle.faults.specs.declared.types.FieldFault.TheVariants as in_field
use Rattle.faults.specs.declared.types.LineFault.{LineFault}
use Rattle.faults.specs.declared.types.LineFault.TheVariants as in_line
use Rattle.faults.specs.declared.types.RigFault.{RigFault}
use Rattle.faults.specs.declared.types.RigFault.TheVariants as in_rig
use Rattle.faults.specs.declared.types.Layer.{Layer}
use Rattle.faults.specs.declared.types.Layer.TheVariants as layers
use Rattle.faults.specs.declared.types.Place.{Place}
use Rattle.faults.specs.declared.types.Report.{Report}

-- a place in words, as the messages of faults begin
abbrev pub place_text : Place → List ℕ
place_text p = codes "line " ++ (decimal p.line ++ (codes ", byte " ++ decimal p.byte))

-- a bad field after the first of its line
abbrev pub field_report : FieldFault → Report
field_report (in_field.UnknownWord p) = record { number = 21; place = p; layer = layers.Field }
field_report (in_field.BadNumber p) = record { number = 23; place = p; layer = layers.Field }

-- a line; a text that is too long is reported at line 0, at the first byte that is too much
abbrev pub line_report : LineFault → Report
line_report (in_line.Field f) = field_report f
line_report (in_line.UnknownWord p) = record { number = 21; place = p; layer = layers.Line }
line_report (in_line.Miscounted p) = record { number = 22; place = p; layer = layers.Line }
line_report (in_line.Misplaced p) = record { number = 24; place = p; layer = layers.Line }
line_report in_line.TooLong = record { number = 25; place = record { line = 0; byte = LONGEST }; layer = layers.Line }

-- what the rig refuses of a line
abbrev pub report_of : RigFault → Report
report_of (in_rig.Line f) = line_report f
report_of (in_rig.NoSuchCell p) = record { number = 4; place = p; layer = layers.Rig }
report_of (in_rig.BadRig p) = record { number = 11; place = p; layer = layers.Rig }

-- the word of a layer
abbrev pub layer_text : Layer → List ℕ
layer_text layers.Field = codes "field"
layer_text layers.Line = codes "line"
layer_text layers.Rig = codes "rig"

-- the word `fault`, the number, the line, the byte and the layer, joined by tabs
abbrev pub report_text : Report → List ℕ
report_text r = join_with_byte TAB (codes "fault" ∷ decimal r.number ∷ decimal r.place.line ∷ decimal r.place.byte ∷ layer_text r.layer ∷ [])

-- A record's reference bytes as code has them, in the words of layout.
use Rattle.fields.specs.declared.records.ReferenceBytes.{ReferenceBytes}
use Rattle.layout.specs.Sheet.{Reference}

abbrev pub reference_by : ReferenceBytes → Reference
reference_by b = record { byte20 = b.byte20; byte21 = b.byte21; byte22 = b.byte22 }

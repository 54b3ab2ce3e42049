-- The kind of an item as code has it, in the words of layout.
use Rattle.fields.specs.declared.kinds.Kind.{Kind}
use Rattle.fields.specs.declared.kinds.Kind.TheVariants as Is
use Rattle.layout.specs.Shared.Types as Types

abbrev pub kind_by : Kind → Types.Kind
kind_by Is.Narrow = Types.narrow
kind_by Is.Wide = Types.wide
kind_by Is.Long = Types.long
kind_by (Is.Integer n) = Types.integer n
kind_by Is.Double = Types.double
kind_by Is.Unknown = Types.unknown

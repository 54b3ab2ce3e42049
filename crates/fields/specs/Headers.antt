-- A record's header as code has it stands for layout's.
use Rattle.fields.specs.References.{reference_by}
use Rattle.fields.specs.declared.headers.Header as Code
use Rattle.layout.specs.Reading.Records.{Header}

unfoldable pub header_of : Code.Header → Header
header_of h =
    record {
      identifier = h.identifier;
      total = h.total;
      metric = h.metric;
      code = h.code;
      in_group = h.in_group;
      group = h.group;
      reference = reference_by h.reference;
      generalisation = h.generalisation;
      word = h.word;
      subobjects = h.subobjects;
      points = h.points;
    }

-- What is read at each place of the header is that field of it, since a field's place is counted from the record's start.
use Rattle.fields.proofs.Laws.Lists.{field_at}
use Rattle.fields.specs.Headers.{header_of}
use Rattle.fields.proofs.headers.header_at.Goals as goal

pub returns : goal.returns
unfolding header_of
returns c =
    let xs = c.args.xs.now in
    let at = c.args.at in
    λ j.
    record {
      identifier = field_at 4 0 at xs _ c.at.ensures j;
      total = field_at 4 4 at xs _ c.at-2.ensures j;
      metric = field_at 4 8 at xs _ c.at-3.ensures j;
      code = field_at 4 12 at xs _ c.at-4.ensures j;
      in_group = field_at 2 16 at xs _ c.at-5.ensures j;
      group = field_at 2 18 at xs _ c.at-6.ensures j;
      reference =
          record {
            byte20 = field_at 1 20 at xs _ c.at-7.ensures j;
            byte21 = field_at 1 21 at xs _ c.at-8.ensures j;
            byte22 = field_at 1 22 at xs _ c.at-9.ensures j;
          };
      generalisation = field_at 1 23 at xs _ c.at-10.ensures j;
      word = field_at 4 24 at xs _ c.at-11.ensures j;
      subobjects = field_at 2 28 at xs _ c.at-12.ensures j;
      points = field_at 2 30 at xs _ c.at-13.ensures j;
    }

-- The corners keep the bits that stand in the sheet (`corners-stored`), since the slice is bytes.
use Rattle.promises.proofs.Stored.{corners-stored}
use Rattle.promises.proofs.kept.corners_kept.Goals as goal

pub returns : goal.returns
returns c =
    corners-stored c.args.setting.year c.args.s.now c.bytes.ensures _ c.corners_of.ensures

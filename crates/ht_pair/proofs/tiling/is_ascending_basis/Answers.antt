use Rattle.std.proofs.Common.{map}
use Rattle.std.proofs.lemmas.Bool.Decides.{Decides-like}
use Rattle.ht_pair.proofs.Tilings.{tiling_basis, basis_tiling}
use Rattle.ht_pair.proofs.tiling.is_ascending_basis.Goals as goal

-- the tilings are the bases in ascending order
pub returns : goal.returns
returns g c =
    let W = map (g.K.Heads.head c.args.by) c.args.items.now in
    Decides-like c.is_tiling.result (tiling_basis c.args.shape W c.requires) (λ h. basis_tiling c.args.shape W h.0 h.1) c.is_tiling.ensures

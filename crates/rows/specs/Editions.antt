-- The name of each edition.
use Rattle.std.specs.Prelude.{ℕ, List, codes}
use Rattle.rows.specs.declared.places.Edition.{Edition}
use Rattle.rows.specs.declared.places.Edition.TheVariants.{Close, Morning}

abbrev pub edition_name : Edition → List ℕ
edition_name Close = codes "close"
edition_name Morning = codes "morning"

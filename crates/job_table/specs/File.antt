-- What an open finds in a file and its log.
use Rattle.std.specs.Prelude.{◌≡◌, ◌⊎◌, ℕ, true, List, []}
use Rattle.sqlite_disk.specs.declared.Disk.{Ghosts}
use Rattle.sqlite_wal.specs.Reads.{AreClean}
use Rattle.sqlite_wal.specs.Recovery.{Image}
use Rattle.sqlite_pool.specs.Stored.{Recovers}
use Rattle.sqlite_pool.specs.Opening.{IsBlankFile}
use Rattle.sqlite_store.specs.Catalog.{Describes}
use Rattle.sqlite_store.specs.declared.catalog.Wanted.{Wanted}
use Rattle.sqlite_store.specs.declared.store.FileStore.{FileStore}
use Rattle.sqlite_store.specs.FileStore.{state, view, schema_of}
use Rattle.sqlite_store.specs.Listing.{IsOurs}
use Rattle.sqlite_trees.specs.declared.schema.Object.{Object}

-- The two files recover to a sound database of this schema.
abbrev pub HasDatabase : ℕ → List Wanted → Image → Type 0
HasDatabase size schema image = (pages : _) × Recovers size image pages × IsOurs size true schema pages

-- The two files hold no database yet, or none of this schema.
abbrev pub HasNone : ℕ → List Wanted → Image → Type 0
HasNone size schema image = IsBlankFile size image ⊎ (HasDatabase size schema image → ⊥)

module _ {D : Type 0} {g : Ghosts D} where
  -- The store shows what the two files recover to; or they had no table of jobs, and there is a new one without a row.
  abbrev pub IsFoundIn : Image → FileStore D g → Type 0
  IsFoundIn image it = Recovers (state it).page_size image (state it).committed
      ⊎ (HasNone (state it).page_size (schema_of it) image × ((view it).trees 0 ≡ []))

  -- Tables of these objects, without a row, were made in two files whose answers were true.
  pub record IsMadeIn (log db : D) (page_size : ℕ) (objects : List Object) (it : FileStore D g) : Type 0 where
    pub clean : AreClean g log db
    pub empty : (view it).trees 0 ≡ []
    pub size : (state it).page_size ≡ page_size
    pub schema : Describes (schema_of it) objects

-- How a store lies in memory.
use Rattle.std.specs.Prelude.{Bool, IsTrue}
use Rattle.sqlite_trees.specs.declared.store.Store as trees
use Rattle.job_table.specs.declared.table.Table.{Table}
use Rattle.agenda_store.specs.Planner.{plan_of, IsLinked}
use Rattle.agenda_store.specs.Store.{Store, IsKept}
use Rattle.agenda_store.specs.declared.planner.Planner.{Planner}

abbrev pub store_of : {S : Type 0} → Planner → Table S → Bool → Store S
store_of planner table is_open = record { plan = plan_of planner; table = table; is_open = is_open }

pub record IsStore {S : Type 0} (g : trees.Ghosts S) (planner : Planner) (table : Table S) (is_open : Bool) : Type 0 where
  pub linked : IsTrue is_open → IsLinked planner
  pub kept : IsKept g (store_of planner table is_open)

-- What stands in the way of a task.
use Rattle.std.specs.Prelude.{◌≡◌, ◌⊎◌, ◌↔◌, ℕ, ◌<◌, Bool, true, ◌&&◌, ◌||◌, if◌then◌else◌, All, Contains, List, None, Option, Some}
use Rattle.rules.specs.State.{State}
use Rattle.isolation.specs.Reach.{Alters, Reaches, only, others}
use Rattle.sharing.specs.Reached.{altered_at, reached_at}
use Rattle.sharing.specs.declared.reach.Reach.{Reach}
use Rattle.mission.specs.declared.tasks.Obstacle.{Obstacle}

-- an object stands in the way of task P: it and the others reach it, and either can alter it
pub record IsInTheWay (P : ℕ) (s : State) (t i : ℕ) : Type 0 where
  pub reached : Reaches s (only P) t i
  pub reached_too : Reaches s (others P) t i
  pub altered : Alters s (only P) t i ⊎ Alters s (others P) t i

-- an obstacle names such an object, and tells who can alter it
pub record IsObstacle (P : ℕ) (s : State) (o : Obstacle) : Type 0 where
  pub is_in_the_way : IsInTheWay P s o.table o.index
  pub own : (o.own ≡ true) ↔ Alters s (only P) o.table o.index
  pub others : (o.others ≡ true) ↔ Alters s (others P) o.table o.index

-- an object is named by an obstacle
pub record IsNamed (os : List Obstacle) (t i : ℕ) : Type 0 where
  pub by : Obstacle
  pub listed : Contains os by
  pub same_table : by.table ≡ t
  pub same_index : by.index ≡ i

-- each obstacle is one, and all objects that stand in the way are named
pub record AreObstacles (P : ℕ) (s : State) (os : List Obstacle) : Type 0 where
  pub each : All (IsObstacle P s) os
  pub all : (t i : ℕ) → IsInTheWay P s t i → IsNamed os t i

-- by what is told of two sides, both reach an entry, and either can alter it
abbrev pub is_between : Reach → Reach → ℕ → ℕ → Bool
is_between a b t i =
    reached_at a t i && (reached_at b t i && (altered_at a t i || altered_at b t i))

abbrev pub between : Reach → Reach → ℕ → ℕ → Option Obstacle
between a b t i =
    if is_between a b t i
    then Some (record { table = t; index = i; own = altered_at a t i; others = altered_at b t i })
    else None

-- a list of those in the tables before t, and of the first n of table t
pub record AreBetween (a b : Reach) (t n : ℕ) (os : List Obstacle) : Type 0 where
  pub each : All (λ (o : Obstacle). between a b o.table o.index ≡ Some o) os
  pub all : (u i : ℕ) (o : Obstacle) → (u < t) ⊎ ((u ≡ t) × (i < n)) → i < 64 →
      between a b u i ≡ Some o → Contains os o

-- A simulation seen from a cone, stage by stage, and the cone of an accepted model (Closure.cone_is_least).
-- laws on lists and texts
pub mod Base
-- what two engines have in common inside the cone; parts and primitives keep it
pub mod View
-- operations and whole steps: inside they keep it, outside they change nothing of it
pub mod Steps
-- runs stay good
pub mod Scoped
-- the queue under a filter
pub mod Queue
-- the loop, seen from the cone
pub mod Slice
-- seconds never fall
pub mod TimeOrder
-- the cone of an accepted model
pub mod Closure

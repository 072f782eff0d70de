-- when two models are alike in their cone
pub mod Alike
-- what then is the same
pub mod Demand

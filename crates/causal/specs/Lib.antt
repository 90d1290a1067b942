-- What must be believed of influence: the events of a list of steps, which happened before which, and what their stamps say.
pub mod Events
pub mod Happened
pub mod Told
pub mod Witness

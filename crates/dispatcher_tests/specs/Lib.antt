pub mod WorkedTurns

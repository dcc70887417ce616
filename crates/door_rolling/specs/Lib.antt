pub mod RollDoor

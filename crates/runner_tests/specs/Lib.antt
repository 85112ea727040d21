pub mod WorkedLessons

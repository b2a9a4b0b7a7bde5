mod Joining
mod StatementText
